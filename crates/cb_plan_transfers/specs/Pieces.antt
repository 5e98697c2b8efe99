-- The plan that brings the entries of pieces of a text to the ranks that own them.
use Rattle.std.specs.Prelude.{◌≡◌, ℕ, ◌+◌, ◌*◌, ◌%◌, ◌<◌, List, [], ◌∷◌, ◌++◌, map, Some}
use Rattle.std.specs.List.{range_with_len}
use Rattle.cb_semirings.specs.Arithmetic.{Arithmetic, IsSemiring}
use Rattle.cb_matrix.specs.Sparse.{Extent, Sparse, IsMatrix, at}
use Rattle.cb_matrix.specs.Values.{matrix_of, total}
use Rattle.cb_plan.specs.declared.acts.Op.{Op}
use Rattle.cb_plan.specs.declared.acts.Op.TheVariants as op_is
use Rattle.cb_plan.specs.declared.acts.Act.{Act}
use Rattle.cb_plan.specs.Meaning.{State, meaning}
use Rattle.cb_plan.specs.Algebras.{matrices}
use Rattle.cb_grid.specs.Parts.{part, part_length}
use Rattle.cb_plan_parts.specs.Collectives.{shut_acts}
use Rattle.cb_plan_parts.specs.PlanParts.{tagged, HasParts}
use Rattle.cb_plan_operations.specs.VectorPlans.{each_works}
use Rattle.cb_plan_transfers.specs.Rounds.{given_away, row_exchanges, column_exchanges, sums}

-- ---- what it leaves
-- a rank has a piece: a matrix of the whole shape
pub record IsPiece (s : Arithmetic) (shape : Extent) (piece : Sparse) : Type 0 where
  pub matrix : IsMatrix s piece
  pub shaped : piece.shape ≡ shape

-- slot n of each rank has its piece
pub record HasPieces (s : Arithmetic) (q : ℕ) (shape : Extent) (pieces : ℕ → Sparse) (n : ℕ) (state : State Sparse) : Type 0 where
  pub there : (r : ℕ) → r < q * q → state r n ≡ Some (pieces r)
  pub each : (r : ℕ) → r < q * q → IsPiece s shape (pieces r)

-- the matrix of all entries of so many pieces: at each place it has the sum of what they have there
abbrev pub sum_of_pieces : Arithmetic → ℕ → Extent → (ℕ → Sparse) → Sparse
sum_of_pieces s count shape pieces = matrix_of s shape (λ i j. total s (map (λ r. at s (pieces r) i j) (range_with_len 0 count)))

-- Over any semiring, whatever pieces of this shape the ranks have in slot 0, the acts leave in slot n of each rank its part of
-- the matrix of all their entries.
abbrev pub IsPiecesPlan : List Act → ℕ → Extent → ℕ → Type 0
IsPiecesPlan acts q shape n =
    (s : Arithmetic) → IsSemiring s → (pieces : ℕ → Sparse) (state : State Sparse) → HasPieces s q shape pieces 0 state
    → HasParts s q (sum_of_pieces s (q * q) shape pieces) n (meaning (matrices s) acts state)

-- ---- its acts
-- each rank adds up what it received
abbrev pub received_sums : ℕ → List Act
received_sums q = each_works q (λ _. sums (1 + q) q)

-- part i of the rows of the sum that rank r made goes to slot 1 + i
abbrev pub sum_cut : ℕ → Extent → ℕ → ℕ → Op
sum_cut q shape r i = op_is.Cut (1 + q) (part q shape.rows i) (0, part_length q shape.cols (r % q)) (1 + i)

-- rank r cuts its sum by rows, for the ranks of its column
abbrev pub sum_cuts : ℕ → Extent → ℕ → List Op
sum_cuts q shape r = map (sum_cut q shape r) (range_with_len 0 q)

-- Each rank cuts its piece by columns. It receives its columns of each piece of its row of the grid, and adds them up. Then it receives its rows of each such
-- sum of its column, and adds these up.
abbrev pub pieces_acts : ℕ → Extent → List Act
pieces_acts q shape =
    (each_works q (λ _. given_away q shape)
    ++ (row_exchanges q (tagged 0)
    ++ (received_sums q
    ++ (each_works q (sum_cuts q shape)
    ++ (column_exchanges q (tagged 0)
    ++ received_sums q)))))
    ++ shut_acts (q * q)
