-- A matrix with some of its columns, by their places among those that have entries.
use Rattle.std.specs.Prelude.{ℕ, slice_range}
use Rattle.cb_matrix.specs.Sparse.{Sparse}
use Rattle.cb_dcsc.specs.Columns.{columns_with_entries}
use Rattle.cb_product.specs.InColumns.{only_columns}

-- a matrix with only the columns from one place up to, but not including, another
abbrev pub only_places : ℕ → ℕ → Sparse → Sparse
only_places low high m = only_columns (slice_range (columns_with_entries m.entries) low high) m
