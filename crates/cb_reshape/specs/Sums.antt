-- Sums of columns, in a matrix of one row, and the sum of all values.
use Rattle.std.specs.Prelude.{◌≡◌, ℕ, ◌<◌, List, map, slice_index_or}
use Rattle.std.specs.List.{range_with_len}
use Rattle.cb_semirings.specs.Arithmetic.{Arithmetic}
use Rattle.cb_matrix.specs.declared.Entry.{Entry}
use Rattle.cb_matrix.specs.Sparse.{Sparse, at}
use Rattle.cb_matrix.specs.Values.{total}
use Rattle.cb_matrix.specs.Combined.{stored}

-- an entry of row 0, unless its value is zero
abbrev pub sum_at : Arithmetic → ℕ → ℕ → List Entry
sum_at s column value = stored s.zero (record { row = 0; column = column; value = value })

-- the sum of column j
abbrev pub column_total : Arithmetic → Sparse → ℕ → ℕ
column_total s a j = total s (map (λ i. at s a i j) (range_with_len 0 a.shape.rows))

-- the sum of row i
abbrev pub row_total : Arithmetic → Sparse → ℕ → ℕ
row_total s a i = total s (map (λ j. at s a i j) (range_with_len 0 a.shape.cols))

-- the sum of each row of a matrix is added to the number at its place
abbrev pub AddsRowSums : Arithmetic → Sparse → List ℕ → List ℕ → Type 0
AddsRowSums s a old new = (i : ℕ) → i < a.shape.rows → slice_index_or new i s.zero ≡ s.add (slice_index_or old i s.zero) (row_total s a i)

-- the sum of all values: that of the sums of the columns
abbrev pub matrix_total : Arithmetic → Sparse → ℕ
matrix_total s a = total s (map (column_total s a) (range_with_len 0 a.shape.cols))
