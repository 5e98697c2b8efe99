-- Dense sums of rows: a column is added entry by entry, and sums are taken row by row.
use Rattle.std.proofs.Common.{◌≡◌, ◌≢◌, ℕ, ◌+◌, ◌-◌, ◌<◌, ◌≤◌, Option, List, [], ◌++◌, length, take, get_or, set, replicate, sym, refl, ap, ◌∙◌, ⊎_elim, arith}
use Rattle.std.specs.Prelude.{All, AllPairs, IfSome}
use Rattle.std.proofs.lemmas.Bool.{cases_eq, cases_lt, eq-eqb, ne_eqb, cond-true, cond-false}
use Rattle.std.proofs.lemmas.List.{get_or_default, get_or-set_same, get_or-set_other, get_or_past}
use Rattle.std.proofs.lemmas.List.Elements.{All-get_or, All-append, All-take, All-nil, All-replicate, All-weaker}
use Rattle.cb_semirings.specs.Arithmetic.{Arithmetic, IsValue, IsSemiring}
use Rattle.cb_matrix.proofs.Totals.{add_zero}
use Rattle.cb_matrix.specs.Sparse.{Sparse, IsMatrix}
use Rattle.cb_dcsc.specs.Columns.{row_value, rows_of, values_of}
use Rattle.cb_dcsc.proofs.Lookup.{all_rows_inside}
use Rattle.cb_product.specs.declared.terms.Term.{Term}
use Rattle.cb_product.specs.SparseColumn.{one_value, rest_value, scaled, AreEntries}
use Rattle.cb_product.specs.Terms.{IsTerm, terms_value, sum_with}
use Rattle.cb_product.proofs.RowValues.{nth_product, scaled_value, scaled_split, scaled_end, row_value-value, absent_above}
use Rattle.cb_product.proofs.TermSums.{terms_past}

module _ (s : Arithmetic) (laws : IsSemiring s) where
  -- a sum is a value, also past all rows
  pub values_or_zero : (sums : List ℕ) → All (IsValue s) sums → (i : ℕ) → IsValue s (get_or sums i s.zero)
  values_or_zero sums h i = ⊎_elim
      (λ (l : i < length sums). All-get_or (IsValue s) sums i s.zero l h)
      (λ (l : length sums ≤ i). rw (get_or_past sums i s.zero l) laws.zero_value)
      (cases_lt i (length sums))

  -- a row's sum moves to a column
  pub moved : (sums : List ℕ) (row i m : ℕ) → All (IsValue s) sums → row < length sums → IsValue s m → s.add (s.add m (one_value s.zero (row, get_or sums row 0) i)) (get_or (set sums row s.zero) i s.zero) ≡ s.add m (get_or sums i s.zero)
  moved sums row i m values l is_m =
      let v = get_or sums row 0 in
      let is_v : IsValue s v = All-get_or (IsValue s) sums row 0 l values in
      ⊎_elim
      (λ (e : row ≡ i).
      let one : one_value s.zero (row, v) i ≡ v = cond-true _ _ _ (eq-eqb row i e) in
      let gone : get_or (set sums row s.zero) i s.zero ≡ s.zero = ap (λ k. get_or (set sums row s.zero) k s.zero) (sym e) ∙ get_or-set_same sums row s.zero s.zero l in
      let was : v ≡ get_or sums i s.zero = get_or_default sums row 0 s.zero l ∙ ap (λ k. get_or sums k s.zero) e in
      (λ t. s.add (s.add m (one t)) (gone t)) ∙ add_zero s laws (s.add m v) (laws.add_value m v is_m is_v) ∙ ap (s.add m) was)
      (λ (ne : row ≡ i → ⊥).
      let one : one_value s.zero (row, v) i ≡ s.zero = cond-false _ _ _ (ne_eqb row i ne) in
      let stays : get_or (set sums row s.zero) i s.zero ≡ get_or sums i s.zero = get_or-set_other sums row i s.zero s.zero (λ e. ne (sym e)) in
      (λ t. s.add (s.add m (one t)) (stays t)) ∙ ap (λ x. s.add x (get_or sums i s.zero)) (add_zero s laws m is_m))
      (cases_eq row i)

  -- ---- a column, times a factor, is added
  module _ (rows values : List ℕ) (scale : Option ℕ) (same : length values ≡ length rows) (all : All (IsValue s) values) (is_scale : IfSome scale (IsValue s)) (up : AllPairs (λ i j. i < j) rows) where
    abbrev left : ℕ → ℕ → ℕ
    left n i = scaled s (rest_value s.zero rows values n i) scale

    -- with one more entry
    pub entry_added : (n : ℕ) (sums : List ℕ) (T : ℕ → ℕ) → n < length rows → All (IsValue s) sums → get_or rows n 0 < length sums
        → ((i : ℕ) → i < length sums → s.add (get_or sums i s.zero) (left n i) ≡ T i)
        → (i : ℕ) → i < length sums → s.add (get_or (set sums (get_or rows n 0) (s.add (get_or sums (get_or rows n 0) 0) (scaled s (get_or values n 0) scale))) i s.zero) (left (n + 1) i) ≡ T i
    entry_added n sums T l vs lr so_far i li =
        let r = get_or rows n 0 in
        let p = scaled s (get_or values n 0) scale in
        let x = s.add (get_or sums r 0) p in
        let is_p : IsValue s p = nth_product s laws rows values scale same all is_scale n l in
        let rest = scaled_value s laws rows values scale same all is_scale (n + 1) i in
        let split = scaled_split s laws rows values scale same all is_scale n i up l in
        ⊎_elim
        (λ (e : r ≡ i).
        let one : one_value s.zero (r, p) i ≡ p = cond-true _ _ _ (eq-eqb r i e) in
        let here : get_or (set sums r x) i s.zero ≡ x = ap (λ k. get_or (set sums r x) k s.zero) (sym e) ∙ get_or-set_same sums r x s.zero lr in
        let was : get_or sums r 0 ≡ get_or sums i s.zero = get_or_default sums r 0 s.zero lr ∙ ap (λ k. get_or sums k s.zero) e in
        ap (λ y. s.add y (left (n + 1) i)) (here ∙ ap (λ y. s.add y p) was)
        ∙ laws.add_assoc (get_or sums i s.zero) p (left (n + 1) i) (All-get_or (IsValue s) sums i s.zero li vs) is_p rest
        ∙ ap (s.add (get_or sums i s.zero)) (ap (λ y. s.add y (left (n + 1) i)) (sym one) ∙ sym split) ∙ so_far i li)
        (λ (ne : r ≡ i → ⊥).
        let one : one_value s.zero (r, p) i ≡ s.zero = cond-false _ _ _ (ne_eqb r i ne) in
        let whole : left n i ≡ left (n + 1) i = split ∙ ap (λ y. s.add y (left (n + 1) i)) one ∙ laws.zero_add (left (n + 1) i) rest in
        ap (λ y. s.add y (left (n + 1) i)) (get_or-set_other sums r i x s.zero (λ e. ne (sym e))) ∙ ap (s.add (get_or sums i s.zero)) (sym whole) ∙ so_far i li)
        (cases_eq r i)

    -- with all entries, the column is added
    pub all_added : (n : ℕ) (sums : List ℕ) (T : ℕ → ℕ) → length rows ≤ n → All (IsValue s) sums → ((i : ℕ) → i < length sums → s.add (get_or sums i s.zero) (left n i) ≡ T i) → (i : ℕ) → i < length sums → get_or sums i s.zero ≡ T i
    all_added n sums T l vs so_far i li =
        sym (add_zero s laws (get_or sums i s.zero) (All-get_or (IsValue s) sums i s.zero li vs)) ∙ ap (s.add (get_or sums i s.zero)) (sym (scaled_end s laws rows values scale same all is_scale n i l)) ∙ so_far i li

-- a sum of zero stays zero
pub zero_stays : (z : ℕ) (sums : List ℕ) (row i : ℕ) → row < length sums → get_or sums i z ≡ z → get_or (set sums row z) i z ≡ z
zero_stays z sums row i l h = ⊎_elim
    (λ (e : i ≡ row). ap (λ k. get_or (set sums row z) k z) e ∙ get_or-set_same sums row z z l)
    (λ (e : i ≡ row → ⊥). let ne : i ≢ row = e in get_or-set_other sums row i z z ne ∙ h)
    (cases_eq i row)

-- a list extended by copies of one element
pub filled : (z n m : ℕ) (old xs : List ℕ) → old ≡ [] → xs ≡ take n old ++ replicate (n - m) z → All (λ x. x ≡ z) xs
filled z n m old xs none e = rw e (All-append (λ x. x ≡ z) (take n old) (replicate (n - m) z) (All-take (λ x. x ≡ z) n old (rw none (All-nil (λ x. x ≡ z)))) (All-replicate (λ x. x ≡ z) (n - m) z refl))

-- ---- the sums after a column of the accumulator and all terms are added
module _ (s : Arithmetic) (laws : IsSemiring s) (a : Sparse) (is : IsMatrix s a) (own_rows own_values : List ℕ) (own : AreEntries s a.shape.rows own_rows own_values) (ts : List Term) (terms : All (IsTerm s (rows_of a.entries)) ts) where
  -- the sum is zero past all rows
  pub sum_past : (i : ℕ) → a.shape.rows ≤ i → sum_with s a own_rows own_values ts i ≡ s.zero
  sum_past i l =
      (λ t. s.add (absent_above s.zero a.shape.rows own_rows own_values i own.inside l t) (terms_past s laws (rows_of a.entries) (values_of a.entries) a.shape.rows i (all_rows_inside s a (rows_of a.entries) is refl) l ts terms t))
      ∙ laws.zero_add s.zero laws.zero_value

  -- zeros, plus the accumulator's column, plus the terms, are the sums of both at each row
  pub dense_sums : (zeros one two : List ℕ) → All (λ x. x ≡ s.zero) zeros → length zeros ≡ a.shape.rows → length one ≡ length zeros → length two ≡ length one
      → ((i : ℕ) → i < length zeros → get_or one i s.zero ≡ s.add (get_or zeros i s.zero) (row_value s.zero own_rows own_values i))
      → ((i : ℕ) → i < length one → get_or two i s.zero ≡ s.add (get_or one i s.zero) (terms_value s (rows_of a.entries) (values_of a.entries) i ts))
      → (i : ℕ) → get_or two i s.zero ≡ sum_with s a own_rows own_values ts i
  dense_sums zeros one two none long one_long two_long p q i =
      let own_is = row_value-value s laws own_rows own_values i own.are_values in
      ⊎_elim
      (λ (l : i < a.shape.rows).
      let m : i < length zeros = omega arith in
      q i (omega arith) ∙ ap (λ x. s.add x (terms_value s (rows_of a.entries) (values_of a.entries) i ts))
      (p i m ∙ ap (λ t. s.add t (row_value s.zero own_rows own_values i)) (All-get_or (λ x. x ≡ s.zero) zeros i s.zero m none) ∙ laws.zero_add _ own_is))
      (λ (l : a.shape.rows ≤ i). get_or_past two i s.zero (omega arith) ∙ sym (sum_past i l))
      (cases_lt i a.shape.rows)

-- zeros are values
pub values_filled : (s : Arithmetic) → IsSemiring s → (xs : List ℕ) → All (λ x. x ≡ s.zero) xs → All (IsValue s) xs
values_filled s laws xs h = All-weaker (λ x. x ≡ s.zero) (IsValue s) (λ x e. rw e laws.zero_value) xs h
