-- Operations on matrices, each by the value that it has at each place.
use Rattle.std.specs.Prelude.{ℕ, Bool, not, ◌+◌, ◌-◌, ◌&&◌, ◌==◌, cond, nat_le, nat_lt, map}
use Rattle.std.specs.List.{range_with_len}
use Rattle.cb_semirings.specs.Arithmetic.{Arithmetic}
use Rattle.cb_matrix.specs.Sparse.{Sparse, Extent, at}
use Rattle.cb_matrix.specs.Values.{total, matrix_of}

-- the transpose
abbrev pub transposed : Arithmetic → Sparse → Sparse
transposed s a = matrix_of s (record { rows = a.shape.cols; cols = a.shape.rows }) (λ i j. at s a j i)

-- the element-wise sum of two matrices of one shape
abbrev pub sum_of : Arithmetic → Sparse → Sparse → Sparse
sum_of s a b = matrix_of s a.shape (λ i j. s.add (at s a i j) (at s b i j))

-- the element-wise product of two matrices of one shape
abbrev pub times_of : Arithmetic → Sparse → Sparse → Sparse
times_of s a b = matrix_of s a.shape (λ i j. s.mul (at s a i j) (at s b i j))

-- a matrix without the entries whose value passes the test
abbrev pub pruned : Arithmetic → (ℕ → Bool) → Sparse → Sparse
pruned s passes a = matrix_of s a.shape (λ i j. cond (passes (at s a i j)) s.zero (at s a i j))

-- whether an entry is stored at the place (i, j): stored values aren't zero
abbrev pub has_entry : Arithmetic → Sparse → ℕ → ℕ → Bool
has_entry s m i j = not (at s m i j == s.zero)

-- the values of a at the places where m has an entry
abbrev pub masked : Arithmetic → Sparse → Sparse → Sparse
masked s a m = matrix_of s a.shape (λ i j. cond (has_entry s m i j) (at s a i j) s.zero)

-- the sum of each column, in a matrix of one row
abbrev pub column_sums : Arithmetic → Sparse → Sparse
column_sums s a = matrix_of s (record { rows = 1; cols = a.shape.cols }) (λ i j. total s (map (λ k. at s a k j) (range_with_len 0 a.shape.rows)))

-- the sum of each row, in a matrix of one column
abbrev pub row_sums : Arithmetic → Sparse → Sparse
row_sums s a = matrix_of s (record { rows = a.shape.rows; cols = 1 }) (λ i j. total s (map (λ k. at s a i k) (range_with_len 0 a.shape.cols)))

-- the part in a range of rows and a range of columns, each without its end
abbrev pub cut : Arithmetic → ℕ × ℕ → ℕ × ℕ → Sparse → Sparse
cut s rows cols a = matrix_of s (record { rows = rows.1 - rows.0; cols = cols.1 - cols.0 }) (λ i j. at s a (rows.0 + i) (cols.0 + j))

-- whether the place (i, j) is in the part of a shape whose first place is the corner
abbrev pub is_covered : ℕ × ℕ → Extent → ℕ → ℕ → Bool
is_covered corner part i j =
    nat_le corner.0 i && nat_lt i (corner.0 + part.rows) && nat_le corner.1 j && nat_lt j (corner.1 + part.cols)

-- the matrix placed in a larger shape, with its first place at the corner, and zero around it
abbrev pub placed : Arithmetic → Extent → ℕ × ℕ → Sparse → Sparse
placed s shape corner a = matrix_of s shape (λ i j. cond (is_covered corner a.shape i j) (at s a (i - corner.0) (j - corner.1)) s.zero)
