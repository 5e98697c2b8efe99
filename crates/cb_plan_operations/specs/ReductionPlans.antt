-- The plans of the sums of the columns, and of the rows, of a matrix.
use Rattle.std.specs.Prelude.{◌≡◌, ℕ, ◌+◌, ◌/◌, ◌%◌, List, ◌++◌, map}
use Rattle.std.specs.List.{range_with_len}
use Rattle.cb_semirings.specs.Arithmetic.{Arithmetic, IsSemiring}
use Rattle.cb_matrix.specs.Sparse.{Extent, Sparse, IsMatrix}
use Rattle.cb_matrix.specs.Operations.{column_sums, row_sums}
use Rattle.cb_plan.specs.declared.acts.Op.{Op}
use Rattle.cb_plan.specs.declared.acts.Op.TheVariants as op_is
use Rattle.cb_plan.specs.declared.acts.Act.{Act}
use Rattle.cb_plan.specs.Meaning.{State}
use Rattle.cb_grid.specs.Parts.{part, part_length}
use Rattle.cb_plan_parts.specs.PlanParts.{each_rank, HasParts}
use Rattle.cb_plan_operations.specs.GridPlans.{mirror_acts, Leaves}
use Rattle.cb_plan_operations.specs.VectorPlans.{each_works, piece_broadcasts, sum_ops}

-- ---- the sums of each column of ranks
-- a rank cuts its rows of the answer out of the sums that came from rank t of its column
abbrev pub own_cut : ℕ × ℕ → ℕ → ℕ → Op
own_cut rows width t = op_is.Cut (10 + t) rows (0, width) (150 + t)

abbrev pub own_cuts : ℕ → ℕ × ℕ → ℕ → List Op
own_cuts q rows width = map (own_cut rows width) (range_with_len 0 q)

-- a rank keeps these rows of what it received, and adds them up in slot 2
abbrev pub own_ops : ℕ → ℕ × ℕ → ℕ → List Op
own_ops q rows width = own_cuts q rows width ++ sum_ops q

-- the rows that a rank keeps are its part of one row
abbrev pub own_sums : ℕ → Extent → ℕ → List Op
own_sums q shape r = own_ops q (part q 1 (r / q)) (part_length q shape.cols (r % q))

-- the column sums of a matrix's blocks, in slot 1, go to all ranks of a column, and each makes its part of the answer
abbrev pub gathered_sums : ℕ → Extent → List Act
gathered_sums q shape = piece_broadcasts q ++ each_works q (own_sums q shape)

-- ---- the plans
-- each rank sums the columns of its block, and the ranks of a column add up their sums
abbrev pub column_sums_acts : ℕ → Extent → List Act
column_sums_acts q shape = each_rank q (λ _. op_is.ColumnSums 0 1) ++ gathered_sums q shape

-- rows and columns exchanged
abbrev pub turned : Extent → Extent
turned shape = record { rows = shape.cols; cols = shape.rows }

-- each rank sums the columns of its transposed block and sends the sums across the diagonal
abbrev pub turned_sums_acts : ℕ → List Act
turned_sums_acts q =
    each_rank q (λ _. op_is.Transpose 0 1)
    ++ (each_rank q (λ _. op_is.ColumnSums 1 1)
    ++ (mirror_acts q
    ++ each_rank q (λ _. op_is.Copy 2 1)))

-- the result there goes back, transposed
abbrev pub turn_back_acts : ℕ → List Act
turn_back_acts q = each_rank q (λ _. op_is.Transpose 2 1) ++ mirror_acts q

abbrev pub row_sums_acts : ℕ → Extent → List Act
row_sums_acts q shape = turned_sums_acts q ++ (gathered_sums q (turned shape) ++ turn_back_acts q)

-- ---- what they leave
-- over any semiring, the acts leave the column sums of any matrix of this shape whose parts are in slot 0
abbrev pub IsColumnSumsPlan : List Act → ℕ → Extent → Type 0
IsColumnSumsPlan acts q shape =
    (s : Arithmetic) → IsSemiring s → (a : Sparse) → IsMatrix s a → a.shape ≡ shape → (state : State Sparse)
    → HasParts s q a 0 state → Leaves s q acts state (column_sums s a)

-- over any semiring, the acts leave the row sums of such a matrix
abbrev pub IsRowSumsPlan : List Act → ℕ → Extent → Type 0
IsRowSumsPlan acts q shape =
    (s : Arithmetic) → IsSemiring s → (a : Sparse) → IsMatrix s a → a.shape ≡ shape → (state : State Sparse)
    → HasParts s q a 0 state → Leaves s q acts state (row_sums s a)
