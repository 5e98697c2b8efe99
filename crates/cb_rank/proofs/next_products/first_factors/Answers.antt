use Rattle.std.proofs.Common.{◌≡◌, ℕ, ◌+◌, ◌<◌, List, [], ◌∷◌, ◌++◌, length, length-append, take, get_or, sym, ap, subst, ◌∙◌, arith}
use Rattle.std.specs.List.{AllZip}
use Rattle.std.proofs.lemmas.List.{take_more}
use Rattle.cb_plan.specs.declared.acts.Half.{Half}
use Rattle.cb_rank.specs.AddedProducts.{AddsProduct}
use Rattle.cb_rank.proofs.next_products.first_factors.Goals as goal

module _ (acc : ℕ) where
  zip_push : (hs : List Half) (ps : List (ℕ × ℕ)) (h : Half) (p : ℕ × ℕ) → AllZip (AddsProduct acc) hs ps → AddsProduct acc h p → AllZip (AddsProduct acc) (hs ++ h ∷ []) (ps ++ p ∷ [])
  zip_push [] [] h p add one = (one, tt)
  zip_push [] (q ∷ qs) h p add one = absurd add
  zip_push (g ∷ gs) [] h p add one = absurd add
  zip_push (g ∷ gs) (q ∷ qs) h p add one = (add.0, zip_push gs qs h p add.1 one)

  -- one more product
  one_more : (halves : List Half) (i : ℕ) (h : Half) (ps qs : List (ℕ × ℕ)) (p : ℕ × ℕ) → i < length halves → h ≡ get_or halves i h → length ps ≡ i → AllZip (AddsProduct acc) (take i halves) ps → AddsProduct acc h p → qs ≡ ps ++ p ∷ []
      → (length qs ≡ i + 1) × AllZip (AddsProduct acc) (take (i + 1) halves) qs
  one_more halves i h ps qs p inside is size add one pushed =
      let more : take (i + 1) halves ≡ take i halves ++ h ∷ [] = take_more halves i h inside ∙ ap (λ g. take i halves ++ g ∷ []) (sym is) in
      let larger = ap length pushed in
      let sum = length-append ps (p ∷ []) in
      (omega arith, subst (λ rs. AllZip (AddsProduct acc) (take (i + 1) halves) rs) (sym pushed) (subst (λ hs. AllZip (AddsProduct acc) hs (ps ++ p ∷ [])) (sym more) (zip_push (take i halves) ps h p add one)))

pub loop-half-preserved : goal.loop-half-preserved
loop-half-preserved c =
    let it =
    one_more c.args.acc c.args.halves.now c.loop-half.half-index c.half-item.result c.loop-half.factors.items c.push.new.self.items c.in-Some.pair c.loop-half-test.true c.half-item.is c.loop-half.invariant.size c.loop-half.invariant.add c.in-Some.ensures c.in_ok-push.ensures.items in
    record { size = it.0; add = it.1 }
