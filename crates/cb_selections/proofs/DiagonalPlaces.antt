-- A column on the diagonal of a square matrix.
use Rattle.std.proofs.Common.{◌≡◌, ◌≢◌, ℕ, ◌<◌, true, false, List, [], ◌∷◌, length, get_or, sym, refl, ap, ◌∙◌, ⊎_elim, arith}
use Rattle.std.specs.Prelude.{All, Bool, ◌==◌}
use Rattle.std.proofs.lemmas.Bool.{cases_eq, cond-true, cond-false, eq-eqb, ne_eqb}
use Rattle.std.proofs.lemmas.List.Elements.{All-nil, All-cons, All-get_or}
use Rattle.cb_semirings.specs.Arithmetic.{Arithmetic, IsValue}
use Rattle.cb_matrix.specs.Sparse.{Sparse, IsMatrix, at}
use Rattle.cb_matrix.proofs.Pairs.{AllPairs-nil, AllPairs-cons}
use Rattle.cb_dcsc.specs.Columns.{in_column, rows_of, values_of, row_value, with_entry}
use Rattle.cb_dcsc.specs.Compressed.{entries_in}
use Rattle.cb_dcsc.proofs.Lookup.{row_value-found, row_value-absent}
use Rattle.cb_product.specs.SparseColumn.{IsSparseColumn}
use Rattle.cb_product.proofs.OwnColumn.{own_sparse}
use Rattle.cb_product.proofs.ProductColumns.{own_column}
use Rattle.cb_product.proofs.StoredColumn.{AddsColumn, column_adds}
use Rattle.cb_operations.specs.Regions.{where_true}

-- a place without a value has none in a region either
pub zero_where : (z : ℕ) (b : Bool) → where_true z b z ≡ z
zero_where z true = refl
zero_where z false = refl

-- a column of one entry
one_column : (s : Arithmetic) (r v : ℕ) → IsValue s v → v ≢ s.zero → IsSparseColumn s (r ∷ []) (v ∷ [])
one_column s r v value some = record {
  same_length = refl;
  ascending = AllPairs-cons (λ i j. i < j) r [] (All-nil (λ i. r < i)) (AllPairs-nil (λ i j. i < j));
  are_values = All-cons (IsValue s) v [] value (All-nil (IsValue s));
  not_zero = All-cons (λ v. v ≢ s.zero) v [] some (All-nil (λ v. v ≢ s.zero));
}

one_place : (z r v w i : ℕ) → v ≡ w → row_value z (r ∷ []) (v ∷ []) i ≡ where_true z (i == r) w
unfolding row_value
one_place z r v w i e =
    ⊎_elim
    (λ (h : r ≡ i). cond-true _ _ _ (eq-eqb r i h) ∙ e ∙ sym (cond-true _ _ _ (eq-eqb i r (sym h))))
    (λ (n : r ≡ i → ⊥). cond-false _ _ _ (ne_eqb r i n) ∙ sym (cond-false _ _ _ (ne_eqb i r (λ h. n (sym h)))))
    (cases_eq r i)

-- one more entry is one more column
entry_adds : (s : Arithmetic) (old new : Sparse) (c v : ℕ) (g : ℕ → ℕ) → IsValue s v → v ≢ s.zero → ((i : ℕ) → row_value s.zero (c ∷ []) (v ∷ []) i ≡ g i) → All (λ e. e.column < c) old.entries
    → new ≡ with_entry old (record { row = c; column = c; value = v }) → IsMatrix s new → AddsColumn s c g old new
unfolding entries_in
entry_adds s old new c v g value some has before new_is m = column_adds s c g (c ∷ []) (v ∷ []) (one_column s c v value some) has old new before new_is m

module _ (s : Arithmetic) (a : Sparse) (is : IsMatrix s a) (rows values : List ℕ) (rows_are : rows ≡ rows_of (in_column 0 a.entries)) (values_are : values ≡ values_of (in_column 0 a.entries)) where
  -- the value at a place of the square matrix
  abbrev pub on_diagonal : ℕ → ℕ → ℕ
  on_diagonal i j = where_true s.zero (i == j) (at s a j 0)

  -- a row that the column doesn't have has none
  pub place_absent : (i j : ℕ) → All (λ c. c ≢ j) rows → on_diagonal i j ≡ s.zero
  place_absent i j others =
      let none : at s a j 0 ≡ s.zero = sym (own_column s a 0 rows values rows_are values_are j) ∙ row_value-absent s.zero rows values j (λ k l. others k 0 l) in
      ap (where_true s.zero (i == j)) none ∙ zero_where s.zero (i == j)

  -- the n-th entry, on the diagonal
  pub place_adds : (n : ℕ) → n < length rows → (old new : Sparse) → All (λ e. e.column < get_or rows n 0) old.entries → new ≡ with_entry old (record { row = get_or rows n 0; column = get_or rows n 0; value = get_or values n 0 }) → IsMatrix s new
      → AddsColumn s (get_or rows n 0) (λ i. on_diagonal i (get_or rows n 0)) old new
  place_adds n l old new before new_is m =
      let column = own_sparse s a is 0 rows values rows_are values_are in
      let long = column.same_length in
      let r = get_or rows n 0 in
      let v = get_or values n 0 in
      let v_is : v ≡ at s a r 0 = sym (row_value-found s.zero rows values n r long column.ascending l refl) ∙ own_column s a 0 rows values rows_are values_are r in
      entry_adds s old new r v (λ i. on_diagonal i r) (All-get_or (IsValue s) values n 0 (omega arith) column.are_values) (All-get_or (λ v. v ≢ s.zero) values n 0 (omega arith) column.not_zero) (λ i. one_place s.zero r v (at s a r 0) i v_is) before new_is m
