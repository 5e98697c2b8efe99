-- Two matrices joined, place by place.
use Rattle.std.specs.Prelude.{ℕ, Bool, cond}
use Rattle.cb_semirings.specs.Arithmetic.{Arithmetic}
use Rattle.cb_matrix.specs.Sparse.{Sparse, at}
use Rattle.cb_matrix.specs.Values.{matrix_of}
use Rattle.cb_dcsc.specs.Columns.{in_column, rows_of, values_of}
use Rattle.cb_dcsc.specs.Compressed.{with_column}

-- the matrix that has at each place what f makes of the values of a and b there
abbrev pub combined_matrix : Arithmetic → (ℕ → ℕ → ℕ) → Sparse → Sparse → Sparse
combined_matrix s f a b = matrix_of s a.shape (λ i j. f (at s a i j) (at s b i j))

-- a matrix with column j of another after all its entries, if it is kept
abbrev pub with_kept : Bool → ℕ → Sparse → Sparse → Sparse
with_kept is_kept j a m = cond is_kept (with_column m j (rows_of (in_column j a.entries)) (values_of (in_column j a.entries))) m
