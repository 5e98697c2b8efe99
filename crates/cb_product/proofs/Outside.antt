-- Columns without their entries in excluded rows.
use Rattle.std.proofs.Common.{◌≡◌, ◌≢◌, ℕ, ◌+◌, ◌<◌, ◌≤◌, Bool, true, false, true≢false, cond, Option, List, [], ◌∷◌, length, get_or, sym, refl, ap, ◌∙◌, ⊎_elim, arith}
use Rattle.std.specs.Prelude.{All, AllPairs, IfSome, ◌==◌}
use Rattle.std.proofs.lemmas.Bool.{cases_Bool, cases_eq, cases_lt, eq-eqb, ne_eqb, cond-false}
use Rattle.std.proofs.lemmas.List.{get_or_default}
use Rattle.std.proofs.lemmas.List.Elements.{All-head, All-tail}
use Rattle.cb_semirings.specs.Arithmetic.{Arithmetic, IsValue, IsSemiring}
use Rattle.cb_matrix.specs.Sparse.{Sparse, IsMatrix}
use Rattle.cb_dcsc.specs.Columns.{rows_of, values_of, row_value}
use Rattle.cb_product.specs.declared.terms.Term.{Term}
use Rattle.cb_product.specs.InColumns.{is_among}
use Rattle.cb_product.specs.Terms.{IsTerm, terms_at, sum_with}
use Rattle.cb_product.specs.SparseColumn.{one_value, rest_value, scaled}
use Rattle.cb_product.specs.Outside.{outside, ArePassed}
use Rattle.cb_product.proofs.OnlyColumns.{among_at}
use Rattle.cb_product.proofs.TermSums.{matrix_values, terms_value-value}
use Rattle.cb_product.proofs.RowValues.{scaled_value, scaled_split, scaled_end}

-- a number that differs from each listed one isn't listed
pub among_none : (xs : List ℕ) (x : ℕ) → All (λ y. y ≢ x) xs → is_among xs x ≡ false
unfolding is_among
among_none [] x h = refl
among_none (y ∷ ys) x h = let away = ne_eqb y x (All-head (λ y. y ≢ x) y ys h) in rw away (among_none ys x (All-tail (λ y. y ≢ x) y ys h))

-- ---- ascending rows, of which those before the n-th come before a row
module _ (rows : List ℕ) (up : AllPairs (λ i j. i < j) rows) (n row : ℕ) (passed : ArePassed rows n row) where
  -- past the last row, the row isn't listed
  pub past_all : length rows ≤ n → is_among rows row ≡ false
  past_all l = among_none rows row (λ k d lk same. let less : get_or rows k 0 < row = passed k (omega arith) in let there : get_or rows k d ≡ get_or rows k 0 = get_or_default rows k d 0 lk in absurd (omega arith))

  -- if the n-th comes after the row, the row isn't listed
  pub past_row : n < length rows → row < get_or rows n 0 → is_among rows row ≡ false
  past_row l after = among_none rows row (λ k d lk same.
      let there : get_or rows k d ≡ get_or rows k 0 = get_or_default rows k d 0 lk in
      ⊎_elim
      (λ (b : k < n). let less : get_or rows k 0 < row = passed k b in absurd (omega arith))
      (λ (b : n ≤ k). ⊎_elim
      (λ (e : n ≡ k). let same_row = ap (λ m. get_or rows m 0) e in absurd (omega arith))
      (λ (e : n ≡ k → ⊥). let ne : n ≢ k = e in let w : get_or rows n 0 < get_or rows k 0 = up n k 0 (omega arith) lk in absurd (omega arith))
      (cases_eq n k))
      (cases_lt k n))

  -- if the n-th isn't before the row, the row is listed if it is the n-th
  pub at_row : n < length rows → row ≤ get_or rows n 0 → (get_or rows n 0 == row) ≡ is_among rows row
  at_row l least = ⊎_elim
      (λ (e : get_or rows n 0 ≡ row). eq-eqb (get_or rows n 0) row e ∙ sym (ap (is_among rows) (sym e) ∙ among_at rows n 0 l))
      (λ (e : get_or rows n 0 ≡ row → ⊥). let ne : get_or rows n 0 ≢ row = e in ne_eqb (get_or rows n 0) row ne ∙ sym (past_row l (omega arith)))
      (cases_eq (get_or rows n 0) row)

-- the value at row i of a column's entries from the n-th on, times a factor, without the rows that p excludes
abbrev pub left_outside : Arithmetic → List ℕ → List ℕ → Option ℕ → (ℕ → Bool) → ℕ → ℕ → ℕ
left_outside s rows values scale p n i = cond (p i) s.zero (scaled s (rest_value s.zero rows values n i) scale)

-- ---- a column, times a factor, without the rows that p excludes, entry by entry
module _ (s : Arithmetic) (laws : IsSemiring s) (rows values : List ℕ) (scale : Option ℕ) (same : length values ≡ length rows) (all : All (IsValue s) values) (is_scale : IfSome scale (IsValue s)) (p : ℕ → Bool) where
  abbrev rest : ℕ → ℕ → ℕ
  rest n i = left_outside s rows values scale p n i

  pub left_outside-value : (n i : ℕ) → IsValue s (rest n i)
  left_outside-value n i = elim (p i) as (λ b. IsValue s (cond b s.zero (scaled s (rest_value s.zero rows values n i) scale))) [ true ↦ laws.zero_value | false ↦ scaled_value s laws rows values scale same all is_scale n i ]

  pub left_outside-end : (n i : ℕ) → length rows ≤ n → rest n i ≡ s.zero
  left_outside-end n i l =
      ap (cond (p i) s.zero) (scaled_end s laws rows values scale same all is_scale n i l) ∙ elim (p i) as (λ b. cond b s.zero s.zero ≡ s.zero) [ true ↦ refl | false ↦ refl ]

  module _ (up : AllPairs (λ i j. i < j) rows) (n : ℕ) (l : n < length rows) where
    abbrev here : ℕ
    here = get_or rows n 0

    abbrev product : ℕ
    product = scaled s (get_or values n 0) scale

    other_row : (i : ℕ) → (b : Bool) → p here ≡ b → (p i ≡ b → ⊥) → (here == i) ≡ false
    other_row i b h n = ne_eqb here i (λ e. n (ap p (sym e) ∙ h))

    -- an entry whose row isn't excluded
    pub left_outside-kept : p here ≡ false → (i : ℕ) → rest n i ≡ s.add (one_value s.zero (here, product) i) (rest (n + 1) i)
    left_outside-kept free i = ⊎_elim
        (λ (t : p i ≡ true).
        let away = other_row i false free (λ f. true≢false (sym t ∙ f)) in
        rw (t, away) (sym (laws.zero_add s.zero laws.zero_value)))
        (λ (f : p i ≡ false). rw f (scaled_split s laws rows values scale same all is_scale n i up l))
        (cases_Bool (p i))

    -- an entry whose row is excluded
    pub left_outside-skipped : p here ≡ true → (i : ℕ) → rest n i ≡ rest (n + 1) i
    left_outside-skipped taken i = ⊎_elim
        (λ (t : p i ≡ true). rw t refl)
        (λ (f : p i ≡ false).
        let away = other_row i true taken (λ t. true≢false (sym t ∙ f)) in
        let later = scaled_value s laws rows values scale same all is_scale (n + 1) i in
        rw f (scaled_split s laws rows values scale same all is_scale n i up l ∙ ap (λ x. s.add x (scaled s (rest_value s.zero rows values (n + 1) i) scale)) (cond-false _ product s.zero away) ∙ laws.zero_add _ later))
        (cases_Bool (p i))

-- without excluded rows, f is unchanged
pub outside_none : (z : ℕ) (excluded : List ℕ) (f : ℕ → ℕ) (i : ℕ) → length excluded ≡ 0 → outside z excluded f i ≡ f i
unfolding is_among
outside_none z [] f i e = refl
outside_none z (x ∷ xs) f i e = absurd (omega arith)

-- terms added to a column without entries
pub terms_alone : (s : Arithmetic) → IsSemiring s → (a : Sparse) → IsMatrix s a → (ts : List Term) → All (IsTerm s (rows_of a.entries)) ts → (i : ℕ) → sum_with s a [] [] ts i ≡ terms_at s a i ts
unfolding row_value
terms_alone s laws a is ts terms i = laws.zero_add _ (terms_value-value s laws (rows_of a.entries) (values_of a.entries) (matrix_values s laws a is) i ts terms)
