-- A column of a matrix, as rows and values.
use Rattle.std.proofs.Common.{◌≡◌, ◌≢◌, ℕ, List, sym, ap, ◌∙◌}
use Rattle.std.specs.Prelude.{◌==◌}
use Rattle.std.proofs.lemmas.List.Elements.{All-map, All-filter}
use Rattle.cb_semirings.specs.Arithmetic.{Arithmetic, IsSemiring}
use Rattle.cb_matrix.specs.declared.Entry.{Entry}
use Rattle.cb_matrix.specs.Sparse.{Sparse, IsMatrix, at}
use Rattle.cb_matrix.proofs.Totals.{add_zero, value_at-value}
use Rattle.cb_dcsc.specs.Columns.{in_column, rows_of, values_of, row_value}
use Rattle.cb_dcsc.proofs.Lookup.{as_long, ascending_rows, column_values}
use Rattle.cb_product.specs.SparseColumn.{IsSparseColumn}
use Rattle.cb_product.proofs.ProductColumns.{own_column}

module _ (s : Arithmetic) (acc : Sparse) (is : IsMatrix s acc) (j : ℕ) (rs vs : List ℕ) (rows_are : rs ≡ rows_of (in_column j acc.entries)) (values_are : vs ≡ values_of (in_column j acc.entries)) where
  -- it is a sparse column
  pub own_sparse : IsSparseColumn s rs vs
  own_sparse = record {
    same_length = as_long acc.entries rs vs j rows_are values_are;
    ascending = ascending_rows s acc j rs is rows_are;
    are_values = column_values s acc j vs is values_are;
    not_zero = rw values_are (All-map (λ v. v ≢ s.zero) (λ (e : Entry). e.value) (in_column j acc.entries) (All-filter (λ (e : Entry). e.column == j) (λ (e : Entry). e.value ≢ s.zero) acc.entries is.not_zero));
  }

  -- if the rest is zero, it is the column of the sum
  pub own_alone : IsSemiring s → (rest : ℕ → ℕ) → ((i : ℕ) → rest i ≡ s.zero) → (i : ℕ) → row_value s.zero rs vs i ≡ s.add (at s acc i j) (rest i)
  own_alone laws rest none i = own_column s acc j rs vs rows_are values_are i ∙ sym (ap (s.add (at s acc i j)) (none i) ∙ add_zero s laws (at s acc i j) (value_at-value s laws acc.entries i j is.values))
