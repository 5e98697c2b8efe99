-- Matrices by their values, place by place.
use Rattle.std.specs.Prelude.{ℕ, zero, suc, cond, ◌==◌, List, [], ◌∷◌, ◌++◌, map, filter}
use Rattle.std.specs.List.{range_with_len}
use Rattle.cb_semirings.specs.Arithmetic.{Arithmetic}
use Rattle.cb_matrix.specs.declared.Entry.{Entry}
use Rattle.cb_matrix.specs.Sparse.{Sparse, Extent, is_at, at}

-- the sum of some values
unfoldable pub total : Arithmetic → List ℕ → ℕ
total s [] = s.zero
total s (x ∷ xs) = s.add x (total s xs)

-- column j of f in the rows below a number: an entry for each value other than z
unfoldable pub column_of : ℕ → (ℕ → ℕ → ℕ) → ℕ → ℕ → List Entry
column_of z f j zero = []
column_of z f j (suc i) = column_of z f j i ++ cond (f i j == z) [] (record { row = i; column = j; value = f i j } ∷ [])

-- the columns of f below a number, one after another, each in the rows below m
unfoldable pub columns_of : ℕ → (ℕ → ℕ → ℕ) → ℕ → ℕ → List Entry
columns_of z f m zero = []
columns_of z f m (suc j) = columns_of z f m j ++ column_of z f j m

-- the matrix that has f i j at each place (i, j) inside the shape
abbrev pub matrix_of : Arithmetic → Extent → (ℕ → ℕ → ℕ) → Sparse
matrix_of s shape f = record { shape = shape; entries = columns_of s.zero f shape.rows shape.cols }

-- the matrix that has no entries
abbrev pub empty_matrix : Extent → Sparse
empty_matrix shape = record { shape = shape; entries = [] }

-- the values given at the place (i, j)
abbrev pub values_at : List Entry → ℕ → ℕ → List ℕ
values_at es i j = map (λ e. e.value) (filter (is_at i j) es)

-- the matrix that has at each place the sum of the values given there
abbrev pub collected : Arithmetic → Extent → List Entry → Sparse
collected s shape es = matrix_of s shape (λ i j. total s (values_at es i j))

-- the shape of a product: the rows of the first matrix, and the columns of the second
abbrev pub product_shape : Sparse → Sparse → Extent
product_shape a b = record { rows = a.shape.rows; cols = b.shape.cols }

-- the product of two matrices: at (i, j) the sum of a(i, k) times b(k, j) over all columns k of the first
abbrev pub product : Arithmetic → Sparse → Sparse → Sparse
product s a b = matrix_of s (product_shape a b) (λ i j. total s (map (λ k. s.mul (at s a i k) (at s b k j)) (range_with_len 0 a.shape.cols)))
