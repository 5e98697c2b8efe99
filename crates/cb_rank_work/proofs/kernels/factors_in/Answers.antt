use Rattle.std.proofs.Common.{◌≡◌, ℕ, ◌+◌, ◌<◌, List, [], ◌∷◌, ◌++◌, length, take, get_or, sym, subst}
use Rattle.std.specs.List.{AllZip}
use Rattle.std.proofs.lemmas.List.{take_more}
use Rattle.cb_matrix.specs.Sparse.{Sparse}
use Rattle.cb_plan.specs.declared.stores.Slot.{Slot}
use Rattle.cb_product.specs.declared.several.Factors.{Factors}
use Rattle.cb_product.specs.SeveralProducts.{pair_of, pairs_in}
use Rattle.cb_rank_work.specs.FactorSlots.{HoldPair}
use Rattle.cb_rank_work.proofs.kernels.factors_in.Goals as goal

module _ {T : Type 0} (slots : List (Slot Sparse)) where
  zip_push : (ps : List (ℕ × ℕ)) (fs : List (Factors T)) (p : ℕ × ℕ) (f : Factors T) → AllZip (HoldPair slots) ps (pairs_in fs) → HoldPair slots p (pair_of f) → AllZip (HoldPair slots) (ps ++ p ∷ []) (pairs_in (fs ++ f ∷ []))
  zip_push [] [] p f held one = (one, tt)
  zip_push [] (g ∷ gs) p f held one = absurd held
  zip_push (q ∷ qs) [] p f held one = absurd held
  zip_push (q ∷ qs) (g ∷ gs) p f held one = (held.0, zip_push qs gs p f held.1 one)

  -- one more pair
  one_more : (products : List (ℕ × ℕ)) (i : ℕ) (fs gs : List (Factors T)) (f : Factors T) → i < length products → gs ≡ fs ++ f ∷ [] → AllZip (HoldPair slots) (take i products) (pairs_in fs) → HoldPair slots (get_or products i (0, 0)) (pair_of f)
      → AllZip (HoldPair slots) (take (i + 1) products) (pairs_in gs)
  one_more products i fs gs f inside pushed held one =
      let zip = zip_push (take i products) fs (get_or products i (0, 0)) f held one in
      subst (λ hs. AllZip (HoldPair slots) (take (i + 1) products) (pairs_in hs)) (sym pushed)
      (subst (λ ps. AllZip (HoldPair slots) ps (pairs_in (fs ++ f ∷ []))) (sym (take_more products i (0, 0) inside)) zip)

pub loop-pair-preserved : goal.loop-pair-preserved
loop-pair-preserved g c =
    one_more c.args.store.now c.args.products.now c.loop-pair.pair-index c.loop-pair.factors.items c.push.new.self.items (record { left = c.sheet-left.result; right = c.sheet-right.result }) c.loop-pair-test.true c.in_ok-push.ensures.items c.loop-pair.invariant (c.sheet-left.ensures, c.sheet-right.ensures)
