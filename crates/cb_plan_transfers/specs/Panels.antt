-- The plan that brings the parts of a matrix into the order of its text: each rank gets some whole columns.
use Rattle.std.specs.Prelude.{◌≡◌, ℕ, ◌+◌, ◌*◌, ◌/◌, ◌%◌, ◌<◌, List, ◌++◌, map, Some}
use Rattle.std.specs.List.{range_with_len}
use Rattle.cb_semirings.specs.Arithmetic.{Arithmetic, IsSemiring}
use Rattle.cb_matrix.specs.Sparse.{Extent, Sparse, IsMatrix}
use Rattle.cb_matrix.specs.Operations.{cut, placed}
use Rattle.cb_plan.specs.declared.acts.Op.{Op}
use Rattle.cb_plan.specs.declared.acts.Op.TheVariants as op_is
use Rattle.cb_plan.specs.declared.acts.Act.{Act}
use Rattle.cb_plan.specs.Meaning.{State, meaning}
use Rattle.cb_plan.specs.Algebras.{matrices}
use Rattle.cb_grid.specs.Parts.{part_start, part_shape}
use Rattle.cb_grid.specs.Pieces.{piece, piece_start}
use Rattle.cb_plan_parts.specs.Collectives.{shut_acts}
use Rattle.cb_plan_parts.specs.PlanParts.{tagged, HasParts}
use Rattle.cb_plan_operations.specs.VectorPlans.{each_works}
use Rattle.cb_plan_transfers.specs.Rounds.{column_exchanges, given_away, sent_away, sums}

-- ---- what it leaves
-- the columns of a range, in the matrix's shape, where the other columns have no entries
abbrev pub columns_alone : Arithmetic → ℕ × ℕ → Sparse → Sparse
columns_alone s cols m = placed s m.shape (0, cols.0) (cut s (0, m.shape.rows) cols m)

-- the panel of rank (i, j): piece i of the columns of part j
abbrev pub panel_of : Arithmetic → ℕ → Sparse → ℕ → ℕ → Sparse
panel_of s q m i j = columns_alone s (piece q m.shape.cols j i) m

-- slot n of each rank has its panel of a matrix
abbrev pub HasPanels : Arithmetic → ℕ → Sparse → ℕ → State Sparse → Type 0
HasPanels s q m n state = (i j : ℕ) → i < q → j < q → state (i * q + j) n ≡ Some (panel_of s q m i j)

-- Over any semiring, whatever matrix of this shape has its parts in slot 0, the acts leave in slot n of each rank its panel of
-- the matrix.
abbrev pub IsPanelsPlan : List Act → ℕ → Extent → ℕ → Type 0
IsPanelsPlan acts q shape n =
    (s : Arithmetic) → IsSemiring s → (m : Sparse) → IsMatrix s m → m.shape ≡ shape → (state : State Sparse)
    → HasParts s q m 0 state → HasPanels s q m n (meaning (matrices s) acts state)

-- ---- its acts
-- rank r cuts its block of a matrix of this shape for the ranks of its column
abbrev pub cuts_at : ℕ → Extent → ℕ → List Op
cuts_at q shape r = given_away q (part_shape q shape (r / q) (r % q))

-- what came from row i of the grid, in its place in the whole shape
abbrev pub placed_part : ℕ → Extent → ℕ → ℕ → Op
placed_part q shape left i = op_is.Place (1 + q + i) shape (part_start q shape.rows i, left) (1 + q + i)

-- a rank puts what it received together: columns from this one on
abbrev pub joined_parts : ℕ → Extent → ℕ → List Op
joined_parts q shape left = map (placed_part q shape left) (range_with_len 0 q) ++ sums (1 + q) q

-- rank r does so from where its panel begins, and keeps nothing else
abbrev pub joined_at : ℕ → Extent → ℕ → List Op
joined_at q shape r = sent_away q ++ joined_parts q shape (piece_start q shape.cols (r % q) (r / q))

-- each rank receives its columns of each block of its column of the grid, and puts them together
abbrev pub panels_acts : ℕ → Extent → List Act
panels_acts q shape =
    (each_works q (cuts_at q shape)
    ++ (column_exchanges q (tagged 1)
    ++ each_works q (joined_at q shape)))
    ++ shut_acts (q * q)
