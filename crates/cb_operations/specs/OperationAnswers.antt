-- What each operation on matrices over a semiring takes, and its result.
use Rattle.std.specs.Prelude.{◌≡◌, ℕ, List, map, slice_index_or}
use Rattle.cb_semirings.specs.Arithmetic.{Arithmetic}
use Rattle.cb_matrix.specs.Sparse.{Sparse, Extent}
use Rattle.cb_matrix.specs.Values.{empty_matrix, product}
use Rattle.cb_matrix.specs.Operations.{masked, transposed, row_sums, column_sums, sum_of, times_of, pruned}
use Rattle.cb_matrix.specs.Passing.{passes}
use Rattle.cb_operations.specs.declared.operations.Operation.{Operation}
use Rattle.cb_operations.specs.declared.operations.Operation.TheVariants.{Multiply, MultiplyMasked, MultiplyVector, Transpose}
use Rattle.cb_operations.specs.declared.operations.Operation.TheVariants.{RowSums, ColumnSums, Add, Times, Prune}

-- how many matrices an operation takes
abbrev pub operand_count_of : Operation → ℕ
operand_count_of Multiply = 2
operand_count_of MultiplyMasked = 3
operand_count_of MultiplyVector = 2
operand_count_of Transpose = 1
operand_count_of RowSums = 1
operand_count_of ColumnSums = 1
operand_count_of Add = 2
operand_count_of Times = 2
operand_count_of (Prune test) = 1

-- the shape at a place of a list, or 0 by 0 if there is none
abbrev pub extent_at : List Extent → ℕ → Extent
extent_at shapes i = slice_index_or shapes i (record { rows = 0; cols = 0 })

-- the matrix at a place of a list, or a matrix of 0 by 0 if there is none
abbrev pub matrix_at : List Sparse → ℕ → Sparse
matrix_at operands i = slice_index_or operands i (empty_matrix (record { rows = 0; cols = 0 }))

-- the rows of the first, and the columns of the second
abbrev pub outer : Extent → Extent → Extent
outer a b = record { rows = a.rows; cols = b.cols }

-- the shapes of the operands agree
abbrev pub Agree : Operation → List Extent → Type 0
Agree Multiply ds = (extent_at ds 0).cols ≡ (extent_at ds 1).rows
Agree MultiplyMasked ds = ((extent_at ds 0).cols ≡ (extent_at ds 1).rows) × (extent_at ds 2 ≡ outer (extent_at ds 0) (extent_at ds 1))
Agree MultiplyVector ds = ((extent_at ds 0).cols ≡ (extent_at ds 1).rows) × ((extent_at ds 1).cols ≡ 1)
Agree Transpose ds = Unit {0}
Agree RowSums ds = Unit {0}
Agree ColumnSums ds = Unit {0}
Agree Add ds = extent_at ds 0 ≡ extent_at ds 1
Agree Times ds = extent_at ds 0 ≡ extent_at ds 1
Agree (Prune test) ds = Unit {0}

-- the shape of the result for operands of these shapes
abbrev pub shape_of : Operation → List Extent → Extent
shape_of Multiply ds = outer (extent_at ds 0) (extent_at ds 1)
shape_of MultiplyMasked ds = outer (extent_at ds 0) (extent_at ds 1)
shape_of MultiplyVector ds = outer (extent_at ds 0) (extent_at ds 1)
shape_of Transpose ds = record { rows = (extent_at ds 0).cols; cols = (extent_at ds 0).rows }
shape_of RowSums ds = record { rows = (extent_at ds 0).rows; cols = 1 }
shape_of ColumnSums ds = record { rows = 1; cols = (extent_at ds 0).cols }
shape_of Add ds = extent_at ds 0
shape_of Times ds = extent_at ds 0
shape_of (Prune test) ds = extent_at ds 0

-- the result for these operands, over a semiring
abbrev pub answer_of : Operation → Arithmetic → List Sparse → Sparse
answer_of Multiply s ms = product s (matrix_at ms 0) (matrix_at ms 1)
answer_of MultiplyMasked s ms = masked s (product s (matrix_at ms 0) (matrix_at ms 1)) (matrix_at ms 2)
answer_of MultiplyVector s ms = product s (matrix_at ms 0) (matrix_at ms 1)
answer_of Transpose s ms = transposed s (matrix_at ms 0)
answer_of RowSums s ms = row_sums s (matrix_at ms 0)
answer_of ColumnSums s ms = column_sums s (matrix_at ms 0)
answer_of Add s ms = sum_of s (matrix_at ms 0) (matrix_at ms 1)
answer_of Times s ms = times_of s (matrix_at ms 0) (matrix_at ms 1)
answer_of (Prune test) s ms = pruned s (passes test) (matrix_at ms 0)

-- the shapes of matrices
abbrev pub shapes_in : List Sparse → List Extent
shapes_in ms = map (λ (m : Sparse). m.shape) ms

-- for all operands of these shapes, over every semiring, the result has this shape
abbrev pub IsShapeOfAnswers : Operation → List Extent → Extent → Type 0
IsShapeOfAnswers operation shapes d =
    (s : Arithmetic) → (ms : List Sparse) → shapes_in ms ≡ shapes → (answer_of operation s ms).shape ≡ d
