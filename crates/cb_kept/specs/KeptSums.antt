-- Shares of sums over the columns of a kept matrix: lists of a number for each row, and numbers.
use Rattle.std.specs.Prelude.{◌≡◌, ◌==◌, if◌then◌else◌, ℕ, List, length, map, All, Option, None, Some, Result, OnErr}
use Rattle.cb_semirings.specs.Arithmetic.{Arithmetic, IsValue}
use Rattle.cb_semirings.specs.Names.{arithmetic_of}
use Rattle.cb_semirings.specs.declared.names.SemiringName.{SemiringName}
use Rattle.cb_matrix.specs.Sparse.{Sparse}
use Rattle.cb_operations.specs.declared.operations.Operation.{Operation}
use Rattle.cb_operations.specs.declared.operations.Operation.TheVariants.{MultiplyVector, RowSums}
use Rattle.cb_reshape.specs.Sums.{matrix_total}
use Rattle.cb_shares.specs.Shares.{panel}
use Rattle.cb_shares.specs.Sums.{AddsShares, AddsTotals, IsColumnOf, IsListOf, share_of}
use Rattle.cb_kept.specs.declared.faults.Fault.{Fault}
use Rattle.cb_kept.specs.declared.faults.Fault.TheVariants.{Lengths, Value}
use Rattle.cb_kept.specs.declared.kept.Kept.{Kept}
use Rattle.cb_kept.specs.declared.kept_sums.Sums.{Sums}
use Rattle.cb_kept.specs.Answers.{IsAnswer}
use Rattle.cb_kept.specs.Kept.{semiring_of, semiring_in, matrix_in}
use Rattle.cb_kept.specs.KeptShares.{IsWhole}
use Rattle.cb_kept.specs.Refusals.{Unless, IsMemory}

-- the operation of a number, if its result is a sum over columns
abbrev pub sum_of : ℕ → Option Operation
sum_of n = if n == 2 then Some MultiplyVector else (if n == 4 then Some RowSums else None)

-- what some columns of the first of kept matrices add to the answer of an operation, as a list
abbrev pub IsKeptShare : Option Operation → ℕ → ℕ → List Kept → Sums → Type 0
IsKeptShare None first end ks sums = ⊥
IsKeptShare (Some operation) first end ks sums =
    IsListOf (arithmetic_of (semiring_in ks)) (share_of operation (arithmetic_of (semiring_in ks)) (map matrix_in ks) first end) sums.values.now

-- the sum of all values of a matrix in the columns of a range; of all values, if these are all columns
pub record IsTotal (s : Arithmetic) (m : Sparse) (first end sum : ℕ) : Type 0 where
  pub columns : sum ≡ matrix_total s (panel m first end)
  pub all : IsWhole first end m.shape.cols → sum ≡ matrix_total s m

-- a share is added to another
pub record AddsShare (s : Arithmetic) (old more new : List ℕ) : Type 0 where
  pub shares : AddsShares s old more new
  pub totals : AddsTotals s old more new

-- the faults of two shares: their lengths differ, or one has a number that is no value
abbrev pub share_faults : Arithmetic → List ℕ → List ℕ → Fault → Type 0
share_faults s old more = Unless (length more ≡ length old) Lengths (Unless (All (IsValue s) old × All (IsValue s) more) Value IsMemory)

-- what becomes of a share when another is added to it over a semiring; at a fault it stays as it is
pub record IsAddedShare (s : Arithmetic) (old more new : List ℕ) (result : Result (Unit {0}) Fault) : Type 0 where
  pub answer : IsAnswer (share_faults s old more) (λ _. AddsShare s old more new) result
  pub unchanged : OnErr result (new ≡ old)

-- the faults of a list that is to be a column with so many rows: it has another length, or a number that is no value
abbrev pub sum_faults : Arithmetic → ℕ → List ℕ → Fault → Type 0
sum_faults s rows list = Unless (length list ≡ rows) Lengths (Unless (All (IsValue s) list) Value IsMemory)

-- the column of a list, kept over a semiring and its name
pub record IsColumnOver (name : SemiringName) (s : Arithmetic) (list : List ℕ) (made : Kept) : Type 0 where
  pub semiring : semiring_of made ≡ name
  pub column : IsColumnOf s list (matrix_in made)

-- the same, over the semiring of another matrix
abbrev pub IsKeptColumn : Kept → List ℕ → Kept → Type 0
IsKeptColumn like list made = IsColumnOver (semiring_of like) (arithmetic_of (semiring_of like)) list made
