-- The columns of a matrix, each with its values replaced.
use Rattle.std.proofs.Common.{◌≡◌, ◌≢◌, ℕ, ◌<◌, List, get_or, sym, ap, ◌∙◌, arith}
use Rattle.std.specs.Prelude.{All}
use Rattle.cb_semirings.specs.Arithmetic.{Arithmetic}
use Rattle.cb_matrix.specs.declared.Entry.{Entry}
use Rattle.cb_matrix.specs.Sparse.{Sparse, IsMatrix, at}
use Rattle.cb_matrix.proofs.Made.{at-outside}
use Rattle.cb_dcsc.specs.Columns.{in_column, rows_of, values_of, row_value, columns_with_entries}
use Rattle.cb_product.specs.InColumns.{AreInColumns}
use Rattle.cb_product.specs.SparseColumn.{IsSparseColumn}
use Rattle.cb_product.proofs.ProductColumns.{own_column}
use Rattle.cb_product.proofs.StoredColumn.{column_inside}
use Rattle.cb_operations.specs.SelectionAnswers.{of_stored}
use Rattle.cb_product.proofs.ColumnsMade.{absent_value}
use Rattle.cb_elementwise.proofs.ReplacedColumn.{of_stored-none}

-- the rows of the n-th column that has entries, by its number
pub nth_are : (es : List Entry) (cs xs : List ℕ) (n : ℕ) (part : List Entry → List ℕ) → cs ≡ columns_with_entries es → xs ≡ part (in_column (get_or (columns_with_entries es) n 0) es) → xs ≡ part (in_column (get_or cs n 0) es)
nth_are es cs xs n part are e = e ∙ ap (λ ds. part (in_column (get_or ds n 0) es)) (sym are)

module _ (s : Arithmetic) (a : Sparse) (is : IsMatrix s a) (f : ℕ → ℕ → ℕ → ℕ) where
  -- the value at a place, replaced
  abbrev pub value_for : ℕ → ℕ → ℕ
  value_for i j = of_stored s.zero (f i j) (at s a i j)

  -- a column without entries is without values
  pub replaced_absent : (cs : List ℕ) → AreInColumns cs a.entries → (i j : ℕ) → All (λ c. c ≢ j) cs → value_for i j ≡ s.zero
  replaced_absent cs stand i j others = of_stored-none s.zero (f i j) (at s a i j) (absent_value s.zero a.entries cs i j stand others)

  module _ (c : ℕ) (rows values ks ws : List ℕ) (rows_are : rows ≡ rows_of (in_column c a.entries)) (values_are : values ≡ values_of (in_column c a.entries)) (kept : (i : ℕ) → row_value s.zero ks ws i ≡ of_stored s.zero (f i c) (row_value s.zero rows values i)) where
    -- a column has the values that are for it
    pub replaced_has : (i : ℕ) → row_value s.zero ks ws i ≡ value_for i c
    replaced_has i = kept i ∙ ap (of_stored s.zero (f i c)) (own_column s a c rows values rows_are values_are i)

    -- in rows of the shape
    pub replaced_inside : IsSparseColumn s ks ws → All (λ i. i < a.shape.rows) ks
    replaced_inside column = column_inside s c (λ i. value_for i c) ks ws column replaced_has a.shape.rows (λ i l. of_stored-none s.zero (f i c) (at s a i c) (at-outside s.zero a.shape a.entries i c is.inside (λ b _. omega arith)))
