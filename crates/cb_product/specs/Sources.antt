-- Products whose sum is computed column by column.
use Rattle.std.specs.Prelude.{◌≡◌, ℕ, ◌≤◌, List, [], ◌∷◌, length, map, All, slice_range}
use Rattle.cb_semirings.specs.Arithmetic.{Arithmetic}
use Rattle.cb_matrix.specs.Sparse.{Sparse, IsMatrix}
use Rattle.cb_dcsc.specs.Columns.{row_value, rows_of, values_of}
use Rattle.cb_product.specs.declared.sources.Source.{Source}
use Rattle.cb_product.specs.declared.terms.Term.{Term}
use Rattle.cb_product.specs.ColumnStarts.{Tells}
use Rattle.cb_product.specs.SparseColumn.{SparseColumn, IsColumnOf}
use Rattle.cb_product.specs.Gathered.{AreGathered}
use Rattle.cb_product.specs.Terms.{IsTerm, AreTermsOf, terms_at}

-- two matrices that have a product, an index of the first one's columns, and terms for entries of the second
pub record IsSource {T : Type 0} (s : Arithmetic) (x : Source T) : Type 0 where
  pub left : IsMatrix s x.left.now
  pub right : IsMatrix s x.right.now
  pub agree : x.left.now.shape.cols ≡ x.right.now.shape.rows
  pub told : Tells x.index x.left.now
  pub gathered : AreGathered s x.left.now (rows_of x.right.now.entries) (values_of x.right.now.entries) x.panel
  pub order : x.begin ≤ x.end
  pub within : x.end ≤ length x.panel.terms.items

-- the terms of its column
abbrev pub column_terms : {T : Type 0} → Source T → List Term
column_terms x = slice_range x.panel.terms.items x.begin x.end

-- its terms are columns of the first matrix, times factors
abbrev pub HasTerms : {T : Type 0} → Arithmetic → Source T → Type 0
HasTerms s x = All (IsTerm s (rows_of x.left.now.entries)) (column_terms x)

-- it has the terms of column j of its product
pub record HasTermsOf {T : Type 0} (s : Arithmetic) (j : ℕ) (x : Source T) : Type 0 where
  pub terms : HasTerms s x
  pub sums : AreTermsOf s x.left.now x.right.now j (column_terms x)

-- its two matrices
abbrev pub source_pair : {T : Type 0} → Source T → Sparse × Sparse
source_pair x = (x.left.now, x.right.now)

abbrev pub source_pairs : {T : Type 0} → List (Source T) → List (Sparse × Sparse)
source_pairs xs = map source_pair xs

-- a value plus the sum of each source's terms at row i, one after another
abbrev pub plus_terms : {T : Type 0} → Arithmetic → ℕ → List (Source T) → ℕ → ℕ
plus_terms s i [] v = v
plus_terms s i (x ∷ xs) v = plus_terms s i xs (s.add v (terms_at s x.left.now i (column_terms x)))

-- the sum at row i of a column of the accumulator and of all terms
abbrev pub sum_with_all : {T : Type 0} → Arithmetic → List (Source T) → List ℕ → List ℕ → ℕ → ℕ
sum_with_all s xs own_rows own_values i = plus_terms s i xs (row_value s.zero own_rows own_values i)

-- at each row the column has that sum
abbrev pub IsColumnWithAll : {T : Type 0} → Arithmetic → List (Source T) → List ℕ → List ℕ → SparseColumn → Type 0
IsColumnWithAll s xs own_rows own_values column = IsColumnOf s (sum_with_all s xs own_rows own_values) column
