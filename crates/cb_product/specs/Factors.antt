-- What a product is computed from, column by column.
use Rattle.std.specs.Prelude.{◌≡◌, ℕ, ◌<◌, List, All, AllPairs}
use Rattle.cb_matrix.specs.Sparse.{Sparse}
use Rattle.cb_product.specs.declared.column_index.ColumnIndex.{ColumnIndex}
use Rattle.cb_product.specs.ColumnStarts.{Tells}

-- two matrices that have a product, an index of the first one's columns, and columns of the second, ascending
pub record AreFactors (index : ColumnIndex) (a b : Sparse) (columns : List ℕ) : Type 0 where
  pub agree : a.shape.cols ≡ b.shape.rows
  pub told : Tells index a
  pub ascending : AllPairs (λ c d. c < d) columns
  pub within : All (λ c. c < b.shape.cols) columns
