-- How many columns the results have that threads share, and where ranges of all of them end.
use Rattle.std.proofs.Common.{◌≡◌, ℕ, ◌<◌, ◌≤◌, List, [], ◌∷◌, length, get_or, refl, sym, ap, subst, arith}
use Rattle.std.specs.Borrow.{Bor}
use Rattle.cb_semirings.specs.Arithmetic.{Arithmetic}
use Rattle.cb_matrix.specs.Sparse.{Sparse}
use Rattle.cb_operations.specs.declared.operations.Operation.TheVariants.{MultiplyMasked, ColumnSums, Add, Times, Prune}
use Rattle.cb_operations.specs.declared.selections.Selection.TheVariants.{Select, Apply, Exclude}
use Rattle.cb_operations.specs.declared.computations.Computation.{Computation}
use Rattle.cb_operations.specs.declared.computations.Computation.TheVariants.{Operation, Selection, MultiplyOutside}
use Rattle.cb_operations.specs.Computations.{answer_of, operand_count_of}
use Rattle.cb_operations.specs.OperationAnswers.{matrix_at}
use Rattle.cb_operations.specs.Operands.{lent_in}
use Rattle.cb_shares.specs.ByColumns.{IsByColumns}
use Rattle.cb_shares.specs.Shares.{AreEnds}

-- by columns there are as many as the first operand has
pub cols_by_columns : (s : Arithmetic) (computation : Computation) (ms : List Sparse) → IsByColumns computation → (answer_of computation s ms).shape.cols ≡ (matrix_at ms 0).shape.cols
cols_by_columns s (Operation ColumnSums) ms by = refl
cols_by_columns s (Operation Add) ms by = refl
cols_by_columns s (Operation Times) ms by = refl
cols_by_columns s (Operation (Prune test)) ms by = refl
cols_by_columns s (Selection (Select region)) ms by = refl
cols_by_columns s (Selection (Apply function)) ms by = refl
cols_by_columns s (Selection Exclude) ms by = refl
cols_by_columns s _ ms by = absurd by

-- and it takes one at least
pub some_by_columns : (computation : Computation) → IsByColumns computation → 0 < operand_count_of computation
some_by_columns (Operation ColumnSums) by = omega arith
some_by_columns (Operation Add) by = omega arith
some_by_columns (Operation Times) by = omega arith
some_by_columns (Operation (Prune test)) by = omega arith
some_by_columns (Selection (Select region)) by = omega arith
some_by_columns (Selection (Apply function)) by = omega arith
some_by_columns (Selection Exclude) by = omega arith
some_by_columns _ by = absurd by

-- the first and the second of borrowed matrices
pub first_operand : (xs : List (Bor Sparse)) (x : Bor Sparse) → 0 < length xs → x ≡ get_or xs 0 x → x.now ≡ matrix_at (lent_in xs) 0
first_operand [] x l is = absurd (omega (arith, l))
first_operand (o ∷ os) x l is = ap (λ (y : Bor Sparse). y.now) is

second_operand : (xs : List (Bor Sparse)) (x : Bor Sparse) → 3 ≤ length xs → x ≡ get_or xs 1 x → x.now ≡ matrix_at (lent_in xs) 1
second_operand [] x l is = absurd (omega (arith, l))
second_operand (o ∷ []) x l is = absurd (omega (arith, l))
second_operand (o ∷ p ∷ os) x l is = ap (λ (y : Bor Sparse). y.now) is

-- a product under a mask or outside it has as many as the right factor
pub cols_of_three : (s : Arithmetic) (computation : Computation) (xs : List (Bor Sparse)) (b : Bor Sparse) → 3 ≤ length xs → length xs ≡ operand_count_of computation → b ≡ get_or xs 1 b
    → (answer_of computation s (lent_in xs)).shape.cols ≡ b.now.shape.cols
cols_of_three s (Operation MultiplyMasked) xs b l count is = ap (λ (m : Sparse). m.shape.cols) (sym (second_operand xs b l is))
cols_of_three s MultiplyOutside xs b l count is = ap (λ (m : Sparse). m.shape.cols) (sym (second_operand xs b l is))
cols_of_three s (Selection Exclude) xs b l count is = absurd (omega (arith, l, count))
cols_of_three s _ xs b l count is = absurd (omega (arith, l, count))

-- ends of ranges of so many columns are ends of as many ranges as there are
pub all_ends : (count cols n : ℕ) (ends : List ℕ) → AreEnds count cols ends → n ≡ cols → AreEnds (length ends) n ends
all_ends count cols n ends are e = subst (λ k. AreEnds k n ends) (sym are.as_many) (subst (λ k. AreEnds count k ends) (sym e) are)
