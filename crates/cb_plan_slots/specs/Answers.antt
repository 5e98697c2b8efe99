-- What the slots of the ranks hold after a plan.
use Rattle.std.specs.Prelude.{◌≡◌, ◌<◌, ℕ, ◌+◌, ◌*◌, List, Option, Some, None}
use Rattle.cb_semirings.specs.Arithmetic.{Arithmetic}
use Rattle.cb_matrix.specs.Sparse.{Sparse, Extent, IsMatrix}
use Rattle.cb_matrix.specs.Values.{empty_matrix}
use Rattle.cb_grid.specs.Parts.{part_shape}
use Rattle.cb_grid.specs.Blocks.{glued}
use Rattle.cb_layout.specs.Distributed.{Distributed}
use Rattle.cb_plan.specs.declared.plans.Planned.{Planned}
use Rattle.cb_plan.specs.declared.stores.Slot.{Slot}
use Rattle.cb_plan.specs.Algebras.{matrices}
use Rattle.cb_plan.specs.Meaning.{State, one, meaning}
use Rattle.cb_plan.specs.Runnable.{IsRunnable}
use Rattle.cb_plan.specs.Stores.{state_of}
use Rattle.cb_plan_parts.specs.PlanParts.{HasParts, operand_starts}
use Rattle.cb_plan_slots.specs.Slots.{HasOperands, HaveSlots, operands_of}
use Rattle.cb_plan_slots.specs.Losses.{LostOrMeans}

-- slot n of each rank (i, j) has a block of the shape of part (i, j)
abbrev pub HasShapes : ℕ → Extent → ℕ → State Sparse → Type 0
HasShapes q shape n state = (i j : ℕ) → i < q → j < q → one (λ (m : Sparse). m.shape) (state (i * q + j) n) ≡ Some (part_shape q shape i j)

-- the block that is there, or an empty one of 0 by 0
abbrev pub block_or : Option Sparse → Sparse
block_or (Some m) = m
block_or None = empty_matrix (record { rows = 0; cols = 0 })

-- the matrix of a shape whose parts are in slot n of the ranks
abbrev pub gathered : Arithmetic → ℕ → Extent → ℕ → State Sparse → Sparse
gathered s q shape n state = glued s q shape (λ i j. block_or (state (i * q + j) n))

-- a matrix over a grid of side q
abbrev pub over_grid : ℕ → Sparse → Distributed
over_grid q m = record { side = q; matrix = m }

-- over the grid, this is the matrix whose blocks are in slot n of the ranks
abbrev pub IsGathered : Arithmetic → ℕ → Extent → ℕ → State Sparse → Distributed → Type 0
IsGathered s q shape n state d = d ≡ over_grid q (gathered s q shape n state)

-- whatever slot n of the ranks is meant to have, unless blocks are lost, this is the matrix of these blocks
abbrev pub IsGatheredOf : Arithmetic → ℕ → Extent → ℕ → List (List (Slot Sparse)) → Distributed → Type 0
IsGatheredOf s q shape n stores d = (meant : State Sparse) → LostOrMeans meant stores → IsGathered s q shape n meant d

-- Over a semiring, on a grid of side q, this plan makes the answer: it can be run, it starts from the blocks of these
-- matrices in these slots, and it leaves the blocks of the answer in its result slot.
pub record Makes (s : Arithmetic) (q : ℕ) (operands : List (ℕ × Sparse)) (planned : Planned) (shape : Extent) (answer : Sparse) : Type 0 where
  pub ranks : planned.plan.ranks ≡ q * q
  pub runnable : IsRunnable planned
  pub slots : HaveSlots operands
  pub starts : planned.starts.items ≡ operand_starts q (operands_of operands)
  pub parts : (stores : List (List (Slot Sparse))) → HasOperands s q operands stores
      → HasParts s q answer planned.result (meaning (matrices s) planned.plan.acts (state_of stores))
  pub matrix : IsMatrix s answer
  pub shaped : answer.shape ≡ shape
