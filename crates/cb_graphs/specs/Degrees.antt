-- Degrees: how many entries each row or column of a matrix has.
use Rattle.std.specs.Prelude.{ℕ, count_by}
use Rattle.std.specs.List.{range_with_len}
use Rattle.cb_semirings.specs.Arithmetic.{Arithmetic}
use Rattle.cb_semirings.specs.Tables.{plus_times}
use Rattle.cb_matrix.specs.Sparse.{Sparse}
use Rattle.cb_matrix.specs.Values.{matrix_of}
use Rattle.cb_matrix.specs.Operations.{has_entry}

-- how many entries row i has
abbrev pub row_degree : Arithmetic → Sparse → ℕ → ℕ
row_degree s a i = count_by (λ j. has_entry s a i j) (range_with_len 0 a.shape.cols)

-- how many entries column j has
abbrev pub column_degree : Arithmetic → Sparse → ℕ → ℕ
column_degree s a j = count_by (λ i. has_entry s a i j) (range_with_len 0 a.shape.rows)

-- the degrees of all rows, in one column over plus-times
abbrev pub row_degrees : Arithmetic → Sparse → Sparse
row_degrees s a = matrix_of plus_times (record { rows = a.shape.rows; cols = 1 }) (λ i _. row_degree s a i)

-- the degrees of all columns, in one column over plus-times
abbrev pub column_degrees : Arithmetic → Sparse → Sparse
column_degrees s a = matrix_of plus_times (record { rows = a.shape.cols; cols = 1 }) (λ j _. column_degree s a j)
