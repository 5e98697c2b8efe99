-- What each selection from matrices over a semiring takes, when it is refused, and its result, by the value that it has at each
-- place.
use Rattle.std.specs.Prelude.{◌≡◌, ℕ, zero, suc, ◌+◌, ◌-◌, ◌*◌, ◌/◌, ◌%◌, ◌≤◌, ◌==◌, if◌then◌else◌, cond, not, min, List, Option, Some, None}
use Rattle.std.specs.Int.NonZero.{non_zero_u32_get}
use Rattle.cb_semirings.specs.Arithmetic.{Arithmetic}
use Rattle.cb_matrix.specs.declared.TheConstants.{LIMIT}
use Rattle.cb_matrix.specs.Sparse.{Sparse, Extent, at}
use Rattle.cb_matrix.specs.Operations.{cut, has_entry, is_covered}
use Rattle.cb_matrix.specs.Values.{matrix_of, product}
use Rattle.cb_operations.specs.declared.selections.Selection.{Selection}
use Rattle.cb_operations.specs.declared.selections.Selection.TheVariants.{Select, Apply, Diagonal, DiagonalMatrix, Power, Part, Kronecker, Assign, Exclude}
use Rattle.cb_operations.specs.declared.refusals.Refusal.{Refusal}
use Rattle.cb_operations.specs.declared.refusals.Refusal.TheVariants.{Shapes, NoValue, NotColumn, NotSquare, TooLarge, Place}
use Rattle.cb_operations.specs.declared.functions.Function.{Function}
use Rattle.cb_operations.specs.declared.functions.Function.TheVariants as function_is
use Rattle.cb_operations.specs.declared.numbers.Choice.{Choice}
use Rattle.cb_operations.specs.declared.regions.Diagonal as diagonal_is
use Rattle.cb_operations.specs.declared.regions.Region.{Region}
use Rattle.cb_operations.specs.declared.regions.Region.TheVariants.{Lower, Upper, On, Off}
use Rattle.cb_operations.specs.Functions.{TakesValues, function_value}
use Rattle.cb_operations.specs.OperationAnswers.{extent_at, matrix_at}
use Rattle.cb_operations.specs.Regions.{is_in, where_true}

-- how many matrices a selection is made from
abbrev pub operand_count_of : Selection → ℕ
operand_count_of (Select region) = 1
operand_count_of (Apply function) = 1
operand_count_of Diagonal = 1
operand_count_of DiagonalMatrix = 1
operand_count_of (Power factors) = 1
operand_count_of (Part rows cols) = 1
operand_count_of Kronecker = 2
operand_count_of (Assign corner) = 2
operand_count_of Exclude = 2

-- two ranges, of which neither descends, end within a matrix of some shape
abbrev pub IsPartOf : ℕ × ℕ → ℕ × ℕ → Extent → Type 0
IsPartOf rows cols whole = (rows.0 ≤ rows.1) × (rows.1 ≤ whole.rows) × (cols.0 ≤ cols.1) × (cols.1 ≤ whole.cols)

-- the Kronecker product of matrices of two shapes isn't too large for a shape
abbrev pub FitsLimit : Extent → Extent → Type 0
FitsLimit d e = (d.rows * e.rows ≤ LIMIT) × (d.cols * e.cols ≤ LIMIT)

-- a part of one shape that begins at a corner, a row and a column, ends within a matrix of another shape
abbrev pub FitsAt : ℕ × ℕ → Extent → Extent → Type 0
FitsAt corner part whole = (corner.0 + part.rows ≤ whole.rows) × (corner.1 + part.cols ≤ whole.cols)

-- a selection can be made from matrices of these shapes over a semiring
abbrev pub Suits : Selection → Arithmetic → List Extent → Type 0
Suits (Select region) s ds = Unit {0}
Suits (Apply function) s ds = TakesValues s function (extent_at ds 0)
Suits Diagonal s ds = Unit {0}
Suits DiagonalMatrix s ds = (extent_at ds 0).cols ≡ 1
Suits (Power factors) s ds = (extent_at ds 0).rows ≡ (extent_at ds 0).cols
Suits (Part rows cols) s ds = IsPartOf rows cols (extent_at ds 0)
Suits Kronecker s ds = FitsLimit (extent_at ds 0) (extent_at ds 1)
Suits (Assign corner) s ds = FitsAt corner (extent_at ds 1) (extent_at ds 0)
Suits Exclude s ds = extent_at ds 1 ≡ extent_at ds 0

-- why a selection is refused if it can't be made; one from a region and a diagonal always can be
abbrev pub refusal_of : Selection → Refusal
refusal_of (Select region) = Shapes
refusal_of (Apply function) = NoValue
refusal_of Diagonal = Shapes
refusal_of DiagonalMatrix = NotColumn
refusal_of (Power factors) = NotSquare
refusal_of (Part rows cols) = Place
refusal_of Kronecker = TooLarge
refusal_of (Assign corner) = Place
refusal_of Exclude = Shapes

-- a selection from matrices of these shapes is refused for this reason
abbrev pub IsRefusal : Selection → Arithmetic → List Extent → Refusal → Type 0
IsRefusal selection s ds refusal = (refusal ≡ refusal_of selection) × ¬ Suits selection s ds

-- ---- results
-- the entries in a region
abbrev pub selected : Arithmetic → Region → Sparse → Sparse
selected s region a = matrix_of s a.shape (λ i j. where_true s.zero (is_in region i j) (at s a i j))

-- f of a value that is stored; a place without an entry keeps z
abbrev pub of_stored : ℕ → (ℕ → ℕ) → ℕ → ℕ
of_stored z f x = cond (not (x == z)) (f x) z

-- the matrix with f i j applied to the value stored at each place (i, j)
abbrev pub replaced : Arithmetic → (ℕ → ℕ → ℕ → ℕ) → Sparse → Sparse
replaced s f a = matrix_of s a.shape (λ i j. of_stored s.zero (f i j) (at s a i j))

-- a matrix with a function applied to each entry
abbrev pub applied : Arithmetic → Function → Sparse → Sparse
applied s function a = replaced s (function_value s function) a

-- the main diagonal, as a matrix of one column
abbrev pub diagonal_of : Arithmetic → Sparse → Sparse
diagonal_of s a = matrix_of s (record { rows = min a.shape.rows a.shape.cols; cols = 1 }) (λ i j. at s a i i)

-- the square matrix with a column on its main diagonal
abbrev pub diagonal_matrix : Arithmetic → Sparse → Sparse
diagonal_matrix s a = matrix_of s (record { rows = a.shape.rows; cols = a.shape.rows }) (λ i j. where_true s.zero (i == j) (at s a j 0))

-- a matrix, multiplied n more times by itself from the right
unfoldable pub times_itself : Arithmetic → Sparse → ℕ → Sparse
times_itself s a zero = a
times_itself s a (suc n) = product s (times_itself s a n) a

-- the power of a matrix with n factors, 1 or more: the product of n - 1 factors times the last
abbrev pub power : Arithmetic → Sparse → ℕ → Sparse
power s a n = times_itself s a (n - 1)

-- the shape of the Kronecker product: the products of the numbers of rows and of columns
abbrev pub pair_shape : Sparse → Sparse → Extent
pair_shape a b = record { rows = a.shape.rows * b.shape.rows; cols = a.shape.cols * b.shape.cols }

-- the Kronecker product of two columns f and g at row i, where g has h rows
abbrev pub pair_value : Arithmetic → ℕ → (ℕ → ℕ) → (ℕ → ℕ) → ℕ → ℕ
pair_value s h f g i = s.mul (f (i / h)) (g (i % h))

-- the Kronecker product: each value of the first matrix is replaced by its products with the second
abbrev pub kronecker : Arithmetic → Sparse → Sparse → Sparse
kronecker s a b =
    matrix_of s (pair_shape a b)
    (λ i j. pair_value s b.shape.rows (λ k. at s a k (j / b.shape.cols)) (λ k. at s b k (j % b.shape.cols)) i)

-- a matrix whose part that begins at a corner is replaced by another matrix, b
abbrev pub assigned : Arithmetic → ℕ × ℕ → Sparse → Sparse → Sparse
assigned s corner b a =
    matrix_of s a.shape (λ i j. cond (is_covered corner b.shape i j) (at s b (i - corner.0) (j - corner.1)) (at s a i j))

-- the values of a at the places where m has no entry
abbrev pub excluded : Arithmetic → Sparse → Sparse → Sparse
excluded s a m = matrix_of s a.shape (λ i j. cond (has_entry s m i j) s.zero (at s a i j))

-- the result for these matrices, over a semiring
abbrev pub answer_of : Selection → Arithmetic → List Sparse → Sparse
answer_of (Select region) s ms = selected s region (matrix_at ms 0)
answer_of (Apply function) s ms = applied s function (matrix_at ms 0)
answer_of Diagonal s ms = diagonal_of s (matrix_at ms 0)
answer_of DiagonalMatrix s ms = diagonal_matrix s (matrix_at ms 0)
answer_of (Power factors) s ms = power s (matrix_at ms 0) (non_zero_u32_get factors)
answer_of (Part rows cols) s ms = cut s rows cols (matrix_at ms 0)
answer_of Kronecker s ms = kronecker s (matrix_at ms 0) (matrix_at ms 1)
answer_of (Assign corner) s ms = assigned s corner (matrix_at ms 1) (matrix_at ms 0)
answer_of Exclude s ms = excluded s (matrix_at ms 0) (matrix_at ms 1)

-- ---- numbers
-- the place on the diagonal of a choice
abbrev pub place_of : Choice → diagonal_is.Diagonal
place_of c = record { row = c.row; column = c.column }

-- the selection of a choice by its number, 11 to 26
abbrev pub selection_of : Choice → Option Selection
selection_of c =
    if c.number == 11 then Some (Select (Lower (place_of c)))
    else (if c.number == 12 then Some (Select (Upper (place_of c)))
    else (if c.number == 13 then Some (Select (On (place_of c)))
    else (if c.number == 14 then Some (Select (Off (place_of c)))
    else (if c.number == 15 then Some (Apply (function_is.Constant c.value))
    else (if c.number == 16 then Some (Apply (function_is.Sum c.value))
    else (if c.number == 17 then Some (Apply (function_is.LeftProduct c.value))
    else (if c.number == 18 then Some (Apply (function_is.RightProduct c.value))
    else (if c.number == 19 then Some (Apply function_is.Row)
    else (if c.number == 20 then Some (Apply function_is.Column)
    else (if c.number == 21 then Some Diagonal
    else (if c.number == 22 then Some DiagonalMatrix
    else (if c.number == 23 then Some (Part (c.row, c.row_end) (c.column, c.column_end))
    else (if c.number == 24 then Some Kronecker
    else (if c.number == 25 then Some (Assign (c.row, c.column))
    else (if c.number == 26 then Some Exclude else None)))))))))))))))
