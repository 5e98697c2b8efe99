-- Functions of the value and the place of an entry.
use Rattle.std.specs.Prelude.{ℕ, ◌<◌}
use Rattle.cb_semirings.specs.Arithmetic.{Arithmetic, IsValue}
use Rattle.cb_matrix.specs.Sparse.{Extent}
use Rattle.cb_operations.specs.declared.functions.Function.{Function}
use Rattle.cb_operations.specs.declared.functions.Function.TheVariants.{Constant, Sum, LeftProduct, RightProduct, Row, Column}

-- the operand of a function at the place (i, j): the number that it uses beside the value
abbrev pub operand_of : Function → ℕ → ℕ → ℕ
operand_of (Constant n) i j = n
operand_of (Sum n) i j = n
operand_of (LeftProduct n) i j = n
operand_of (RightProduct n) i j = n
operand_of Row i j = i
operand_of Column i j = j

-- The numbers that a function takes in matrices of a shape are values: its own, or those of all rows or of all columns.
abbrev pub TakesValues : Arithmetic → Function → Extent → Type 0
TakesValues s (Constant n) d = IsValue s n
TakesValues s (Sum n) d = IsValue s n
TakesValues s (LeftProduct n) d = IsValue s n
TakesValues s (RightProduct n) d = IsValue s n
TakesValues s Row d = (i : ℕ) → i < d.rows → IsValue s i
TakesValues s Column d = (j : ℕ) → j < d.cols → IsValue s j

-- the result of a function for the value x at the place (i, j)
abbrev pub function_value : Arithmetic → Function → ℕ → ℕ → ℕ → ℕ
function_value s (Constant n) i j x = n
function_value s (Sum n) i j x = s.add x n
function_value s (LeftProduct n) i j x = s.mul n x
function_value s (RightProduct n) i j x = s.mul x n
function_value s Row i j x = i
function_value s Column i j x = j
