-- Texts that are cut where lines end.
use Rattle.std.proofs.Common.{◌≡◌, ℕ, suc, ◌+◌, ◌-◌, ◌<◌, true, List, [], ◌∷◌, ◌++◌, length, get_or, arith, sym, ap, subst, ◌∙◌, refl, append-nil, length-append}
use Rattle.std.specs.Prelude.{All}
use Rattle.std.proofs.lemmas.List.{take_all, get_or_append_left, get_or-append_right}
use Rattle.std.proofs.lemmas.List.Concat.{flat_map-append}
use Rattle.std.proofs.lemmas.List.Elements.{All-get_or}
use Rattle.cb_market.specs.Pieces.{is_whole}
use Rattle.cb_market.proofs.PartedTexts.{whole_end}
use Rattle.cb_market.proofs.LongerTexts.{whole_last}
use Rattle.cb_job_inputs.specs.TextPieces.{AreCut, in_a_row}

-- a text whose last byte is a line feed
pub whole_by_last : (text : List ℕ) (last : ℕ) → last + 1 ≡ length text → get_or text last 0 ≡ 10 → is_whole text ≡ true
whole_by_last text last h e =
    let end : length text - 1 ≡ last = omega (arith, h) in
    subst (λ t. is_whole t ≡ true) (take_all (length text) text (omega arith)) (whole_end text (length text) (omega (arith, h)) (omega arith) (ap (λ i. get_or text i 0) end ∙ e))

-- two texts that end with lines, one after the other
whole_both : (a b : List ℕ) → is_whole a ≡ true → is_whole b ≡ true → is_whole (a ++ b) ≡ true
whole_both a [] x y = subst (λ t. is_whole t ≡ true) (sym (append-nil a)) x
whole_both a (c ∷ b) x y = whole_last a (c ∷ b) (omega arith) y

-- and pieces that do
pub whole_row : (ps : List (List ℕ)) → ((n : ℕ) (d : List ℕ) → n < length ps → is_whole (get_or ps n d) ≡ true) → is_whole (in_a_row ps) ≡ true
whole_row [] h = refl
whole_row (p ∷ ps) h = whole_both p (in_a_row ps) (h 0 p (omega arith)) (whole_row ps (λ n d l. h (suc n) d (omega (arith, l))))

-- a piece more
pub row_more : (ps : List (List ℕ)) (p : List ℕ) → in_a_row (ps ++ p ∷ []) ≡ in_a_row ps ++ p
row_more ps p = flat_map-append (λ (x : List ℕ). x) ps (p ∷ []) ∙ ap (λ t. in_a_row ps ++ t) (append-nil p)

-- pieces that end with lines, and a last one
pub cut_with_last : (ps : List (List ℕ)) (p : List ℕ) → All (λ (x : List ℕ). is_whole x ≡ true) ps → AreCut (ps ++ p ∷ [])
cut_with_last ps p h n d l =
    let count = length-append ps (p ∷ []) in
    let inside : n < length ps = omega (arith, l, count) in
    subst (λ t. is_whole t ≡ true) (sym (get_or_append_left ps (p ∷ []) d n inside)) (All-get_or (λ (x : List ℕ). is_whole x ≡ true) ps n d inside h)

module _ (a b ps : List (List ℕ)) (both : a ++ b ≡ ps) (cut : AreCut ps) where
  count : length a + length b ≡ length ps
  count = sym (length-append a b) ∙ ap length both

  in_front : (n : ℕ) (d : List ℕ) → n < length a → get_or ps n d ≡ get_or a n d
  in_front n d l = sym (ap (λ xs. get_or xs n d) both) ∙ get_or_append_left a b d n l

  -- so are the pieces in front
  pub cut_front : AreCut a
  cut_front n d l = subst (λ t. is_whole t ≡ true) (in_front n d (omega (arith, l))) (cut n d (omega (arith, l, count)))

  -- which end with a line if others follow
  pub whole_front : 0 < length b → is_whole (in_a_row a) ≡ true
  whole_front some = whole_row a (λ n d l. subst (λ t. is_whole t ≡ true) (in_front n d l) (cut n d (omega (arith, l, count, some))))

  -- and those at the back
  pub cut_back : AreCut b
  cut_back n d l =
      subst (λ t. is_whole t ≡ true) (sym (ap (λ xs. get_or xs (length a + n) d) both) ∙ get_or-append_right a b (length a) (length a + n) d refl (omega arith) ∙ ap (λ k. get_or b k d) (omega arith))
      (cut (length a + n) d (omega (arith, l, count)))

  -- together they are all
  pub row_halves : in_a_row a ++ in_a_row b ≡ in_a_row ps
  row_halves = sym (flat_map-append (λ (x : List ℕ). x) a b) ∙ ap in_a_row both

-- the only piece
pub only_row : (ps : List (List ℕ)) (d : List ℕ) → length ps < 2 → 0 < length ps → in_a_row ps ≡ get_or ps 0 d
only_row [] d few some = absurd (omega (arith, some))
only_row (p ∷ []) d few some = append-nil p
only_row (p ∷ q ∷ ps) d few some = absurd (omega (arith, few))

-- what ends with a line, ends with one if its beginning is taken away
pub whole_rest : (a b : List ℕ) → is_whole (a ++ b) ≡ true → is_whole b ≡ true
whole_rest [] b h = h
whole_rest (c ∷ []) [] h = refl
whole_rest (c ∷ []) (d ∷ b) h = h
whole_rest (c ∷ d ∷ a) b h = whole_rest (d ∷ a) b h
