-- When a plan computes an operation.
use Rattle.std.specs.Prelude.{◌≡◌, ℕ, List, [], ◌∷◌, All}
use Rattle.cb_semirings.specs.Arithmetic.{Arithmetic, IsSemiring}
use Rattle.cb_matrix.specs.Sparse.{Sparse, Extent, IsMatrix}
use Rattle.cb_plan.specs.declared.plans.Planned.{Planned}
use Rattle.cb_plan_slots.specs.Answers.{Makes}
use Rattle.cb_operations.specs.declared.operations.Operation.{Operation}
use Rattle.cb_operations.specs.OperationAnswers.{shape_of, answer_of, shapes_in}

-- each of these slots, with the matrix at its place in the list
abbrev pub in_slots : List ℕ → List Sparse → List (ℕ × Sparse)
in_slots [] ms = []
in_slots (n ∷ ns) [] = []
in_slots (n ∷ ns) (m ∷ ms) = (n, m) ∷ in_slots ns ms

-- these matrices, in the slots of operands: 0, 1, and 7 for a third, which is a mask
abbrev pub placed_operands : List Sparse → List (ℕ × Sparse)
placed_operands ms = in_slots (0 ∷ 1 ∷ 7 ∷ []) ms

-- on a grid of side q, over any semiring, the plan makes the operation's answer from any matrices of these shapes
abbrev pub Computes : Operation → ℕ → List Extent → Planned → Type 0
Computes operation q shapes planned =
    (s : Arithmetic) → IsSemiring s → (ms : List Sparse) → All (IsMatrix s) ms → shapes_in ms ≡ shapes →
    Makes s q (placed_operands ms) planned (shape_of operation shapes) (answer_of operation s ms)
