-- The value at a place of entries that stand in two lists: that of the first list that has an entry there.
use Rattle.std.proofs.Common.{◌≡◌, ◌≢◌, ℕ, suc, ◌<◌, ◌+◌, true, false, cond, List, [], ◌∷◌, ◌++◌, length, drop, get_or, drop-cons, add-one, sym, refl, ap, ◌∙◌, ⊎_elim}
use Rattle.std.specs.Prelude.{All}
use Rattle.std.proofs.lemmas.Bool.{cases_Bool}
use Rattle.std.proofs.lemmas.List.Elements.{All-head, All-tail}
use Rattle.cb_matrix.specs.declared.Entry.{Entry}
use Rattle.cb_matrix.specs.Sparse.{is_at, value_at}

-- the element at a place of a list, and those after it
pub dropped : {X : Type 0} (xs : List X) (k : ℕ) (x : X) → k < length xs → x ≡ get_or xs k x → drop k xs ≡ x ∷ drop (k + 1) xs
dropped xs k x l is = rw add-one (drop-cons xs k x l ∙ ap (λ y. y ∷ drop (suc k) xs) (sym is))

module _ (z i j : ℕ) where
  -- if the first entries have a value other than z, all have it
  pub value_first : (xs ys : List Entry) → value_at z xs i j ≢ z → value_at z (xs ++ ys) i j ≡ value_at z xs i j
  unfolding value_at
  value_first [] ys some = absurd (some refl)
  value_first (e ∷ es) ys some =
      ⊎_elim
      (λ (t : is_at i j e ≡ true). ap (λ b. cond b e.value (value_at z (es ++ ys) i j)) t ∙ sym (ap (λ b. cond b e.value (value_at z es i j)) t))
      (λ (f : is_at i j e ≡ false).
      let one : value_at z (e ∷ es) i j ≡ value_at z es i j = ap (λ b. cond b e.value (value_at z es i j)) f in
      ap (λ b. cond b e.value (value_at z (es ++ ys) i j)) f ∙ value_first es ys (λ same. some (one ∙ same)) ∙ sym one)
      (cases_Bool (is_at i j e))

  -- if they have z, which none of them stores, all have what the others have
  pub value_rest : (xs ys : List Entry) → All (λ e. e.value ≢ z) xs → value_at z xs i j ≡ z → value_at z (xs ++ ys) i j ≡ value_at z ys i j
  unfolding value_at
  value_rest [] ys stored none = refl
  value_rest (e ∷ es) ys stored none =
      ⊎_elim
      (λ (t : is_at i j e ≡ true). absurd (All-head (λ e. e.value ≢ z) e es stored (sym (ap (λ b. cond b e.value (value_at z es i j)) t) ∙ none)))
      (λ (f : is_at i j e ≡ false).
      let one : value_at z (e ∷ es) i j ≡ value_at z es i j = ap (λ b. cond b e.value (value_at z es i j)) f in
      ap (λ b. cond b e.value (value_at z (es ++ ys) i j)) f ∙ value_rest es ys (All-tail (λ e. e.value ≢ z) e es stored) (sym one ∙ none))
      (cases_Bool (is_at i j e))
