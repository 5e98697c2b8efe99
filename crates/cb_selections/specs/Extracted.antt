-- Rows and columns of a matrix by their numbers.
use Rattle.std.specs.Prelude.{ℕ, ◌<◌, ◌≤◌, Bool, List, Option, None, Some, length, slice_index, All}
use Rattle.std.specs.List.{range_with_len}
use Rattle.cb_semirings.specs.Arithmetic.{Arithmetic}
use Rattle.cb_matrix.specs.declared.TheConstants.{LIMIT}
use Rattle.cb_matrix.specs.Sparse.{Sparse, at}
use Rattle.cb_matrix.specs.Values.{matrix_of}
use Rattle.cb_operations.specs.Regions.{where_true}
use Rattle.cb_reshape.specs.Rows.{is_row_of}

-- the rows and columns with the given numbers, in that order
abbrev pub extracted : Arithmetic → List ℕ → List ℕ → Sparse → Sparse
extracted s rows cols a =
    matrix_of s (record { rows = length rows; cols = length cols }) (λ i j. at s a (slice_index rows i) (slice_index cols j))

-- the rows with the given numbers, in that order
abbrev pub rows_by : Arithmetic → List ℕ → Sparse → Sparse
rows_by s rows a =
    matrix_of s (record { rows = length rows; cols = a.shape.cols }) (λ i j. at s a (slice_index rows i) j)

-- the columns with the given numbers, in that order
abbrev pub columns_by : Arithmetic → List ℕ → Sparse → Sparse
columns_by s cols a =
    matrix_of s (record { rows = a.shape.rows; cols = length cols }) (λ i j. at s a i (slice_index cols j))

-- the numbers of a list; without one, all numbers below n, in order
abbrev pub listed_or_all : Option (List ℕ) → ℕ → List ℕ
listed_or_all (Some numbers) n = numbers
listed_or_all None n = range_with_len 0 n

-- a list, if there is one, has no more numbers than a matrix can have rows or columns
abbrev pub AreFew : Option (List ℕ) → Type 0
AreFew (Some numbers) = length numbers ≤ LIMIT
AreFew None = Unit {0}

-- and only numbers below n
abbrev pub AreBelow : ℕ → Option (List ℕ) → Type 0
AreBelow n (Some numbers) = All (λ i. i < n) numbers
AreBelow n None = Unit {0}

-- the rows and columns that two lists name, in that order; without a list, all of them
abbrev pub extracted_by : Arithmetic → Option (List ℕ) → Option (List ℕ) → Sparse → Sparse
extracted_by s rows cols a = extracted s (listed_or_all rows a.shape.rows) (listed_or_all cols a.shape.cols) a

-- ---- their columns at some places of the list of columns, from one up to, but not including, another; the others are empty
-- whether a place is one of these
abbrev pub is_between : ℕ → ℕ → ℕ → Bool
is_between first end j = is_row_of (first, end) j

abbrev pub extracted_between : Arithmetic → List ℕ → List ℕ → ℕ → ℕ → Sparse → Sparse
extracted_between s rows cols first end a =
    matrix_of s (record { rows = length rows; cols = length cols }) (λ i j. where_true s.zero (is_between first end j) (at s a (slice_index rows i) (slice_index cols j)))

-- of all rows
abbrev pub columns_between : Arithmetic → List ℕ → ℕ → ℕ → Sparse → Sparse
columns_between s cols first end a =
    matrix_of s (record { rows = a.shape.rows; cols = length cols }) (λ i j. where_true s.zero (is_between first end j) (at s a i (slice_index cols j)))
