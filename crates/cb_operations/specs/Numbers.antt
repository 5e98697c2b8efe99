-- Computations by numbers, as programs in other languages name them.
use Rattle.std.specs.Prelude.{◌≡◌, ◌≢◌, ℕ, ◌<◌, ◌≤◌, ◌==◌, if◌then◌else◌, Option, Some, None, option_map}
use Rattle.std.specs.Int.NonZero.{non_zero_u32_get}
use Rattle.cb_matrix.specs.declared.passing.Test.TheVariants.{Below, Above, Equal}
use Rattle.cb_operations.specs.declared.operations.Operation.{Operation}
use Rattle.cb_operations.specs.declared.operations.Operation.TheVariants.{Multiply, MultiplyMasked, MultiplyVector, Transpose}
use Rattle.cb_operations.specs.declared.operations.Operation.TheVariants.{RowSums, ColumnSums, Add, Times, Prune}
use Rattle.cb_operations.specs.declared.selections.Selection.TheVariants as selection_is
use Rattle.cb_operations.specs.declared.computations.Computation.{Computation}
use Rattle.cb_operations.specs.declared.computations.Computation.TheVariants as computation_is
use Rattle.cb_operations.specs.declared.numbers.Choice.{Choice}
use Rattle.cb_operations.specs.SelectionAnswers.{selection_of}

-- the operation of a number, 0 to 10, with the value that prunes compare with
abbrev pub operation_of : ℕ → ℕ → Option Operation
operation_of n value =
    if n == 0 then Some Multiply
    else (if n == 1 then Some MultiplyMasked
    else (if n == 2 then Some MultiplyVector
    else (if n == 3 then Some Transpose
    else (if n == 4 then Some RowSums
    else (if n == 5 then Some ColumnSums
    else (if n == 6 then Some Add
    else (if n == 7 then Some Times
    else (if n == 8 then Some (Prune (Below value))
    else (if n == 9 then Some (Prune (Above value))
    else (if n == 10 then Some (Prune (Equal value)) else None))))))))))

-- the power with n factors; there is none with 0
abbrev pub IsPowerOf : ℕ → Option Computation → Type 0
IsPowerOf n None = n ≡ 0
IsPowerOf n (Some (computation_is.Selection (selection_is.Power factors))) = non_zero_u32_get factors ≡ n
IsPowerOf n (Some _) = ⊥

-- the computation of a choice, if there is one: an operation, a power, the product outside a mask, or any other selection
pub record IsChosen (c : Choice) (o : Option Computation) : Type 0 where
  pub operation : c.number ≤ 10 → o ≡ option_map computation_is.Operation (operation_of c.number c.value)
  pub power : c.number ≡ 27 → IsPowerOf c.factors o
  pub outside : c.number ≡ 28 → o ≡ Some computation_is.MultiplyOutside
  pub selection : 10 < c.number → c.number ≢ 27 → c.number ≢ 28 → o ≡ option_map computation_is.Selection (selection_of c)
