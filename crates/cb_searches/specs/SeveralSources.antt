-- Searches from several sources, with their results side by side.
use Rattle.std.specs.Prelude.{◌≡◌, ℕ, ◌<◌, List, length, slice_index}
use Rattle.cb_semirings.specs.Tables.{min_plus}
use Rattle.cb_matrix.specs.declared.Entry.{Entry}
use Rattle.cb_matrix.specs.Sparse.{Sparse, Extent, at}
use Rattle.cb_matrix.specs.Values.{matrix_of}
use Rattle.cb_searches.specs.Walks.{AreDistances, AreLevels}

-- a column of a matrix, as a matrix of one column
abbrev pub column_at : Sparse → ℕ → Sparse
column_at m j = matrix_of min_plus (record { rows = m.shape.rows; cols = 1 }) (λ i k. at min_plus m i j)

-- a column for each source
abbrev pub columns_shape : Sparse → List ℕ → Extent
columns_shape a sources = record { rows = a.shape.rows; cols = length sources }

-- Each column of a matrix has the least weights of walks from one source, in the order of the sources.
pub record AreDistancesFrom (a : Sparse) (sources : List ℕ) (m : Sparse) : Type 0 where
  pub shape : m.shape ≡ columns_shape a sources
  pub columns : (j : ℕ) → j < length sources → AreDistances a (slice_index sources j) (column_at m j)

-- Each column of a matrix has the least lengths of walks from one source, in the order of the sources.
pub record AreLevelsFrom (a : Sparse) (sources : List ℕ) (m : Sparse) : Type 0 where
  pub shape : m.shape ≡ columns_shape a sources
  pub columns : (j : ℕ) → j < length sources → AreLevels a (slice_index sources j) (column_at m j)

-- an entry moved to another column
abbrev pub in_column_of : ℕ → Entry → Entry
in_column_of j e = record { row = e.row; column = j; value = e.value }
