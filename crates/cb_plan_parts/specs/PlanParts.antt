-- Matrices whose parts are in the slots of the ranks of a square grid, and operations of all ranks.
use Rattle.std.specs.Prelude.{◌≡◌, ◌<◌, ℕ, ◌+◌, ◌*◌, ◌/◌, ◌%◌, Bool, true, ◌&&◌, List, map, flat_map, Some}
use Rattle.std.specs.List.{range_with_len}
use Rattle.cb_semirings.specs.Arithmetic.{Arithmetic}
use Rattle.cb_matrix.specs.Sparse.{Extent, Sparse}
use Rattle.cb_letters.specs.declared.Tag.{Tag}
use Rattle.cb_plan.specs.declared.acts.Op.{Op}
use Rattle.cb_plan.specs.declared.acts.Op.TheVariants as op_is
use Rattle.cb_plan.specs.declared.acts.Act.{Act}
use Rattle.cb_plan.specs.declared.acts.Act.TheVariants as act_is
use Rattle.cb_plan.specs.declared.acts.Start.{Start}
use Rattle.cb_plan.specs.declared.stores.TheConstants.{SLOTS}
use Rattle.cb_plan.specs.Meaning.{State}
use Rattle.cb_plan.specs.Checks.{all_below}
use Rattle.cb_plan_parts.specs.Collectives.{are_distinct}
use Rattle.cb_grid.specs.Parts.{part_shape}
use Rattle.cb_grid.specs.Blocks.{block_of}
use Rattle.cb_plan_parts.specs.declared.first_slots.Operand.{Operand}

-- the tag with this number
abbrev pub tagged : ℕ → Tag
tagged n = record { 0 = n }

-- each rank of a grid of side q does an operation
abbrev pub each_rank : ℕ → (ℕ → Op) → List Act
each_rank q op = map (λ r. act_is.Work r (op r)) (range_with_len 0 (q * q))

-- a slot of a rank becomes its part of a matrix of this shape without entries
abbrev pub zero_op : ℕ → ℕ → Extent → ℕ → Op
zero_op q slot shape r = op_is.Zero slot (part_shape q shape (r / q) (r % q))

-- a slot of a rank has its part of a matrix of this shape
abbrev pub part_start_at : ℕ → ℕ → ℕ → Extent → Start
part_start_at q slot r shape = record { rank = r; slot = slot; shape = part_shape q shape (r / q) (r % q) }

-- what a rank has before the first act: its part of each operand, in the operand's slot
abbrev pub starts_at : ℕ → List Operand → ℕ → List Start
starts_at q operands r = map (λ o. part_start_at q o.slot r o.shape) operands

-- what all ranks have before the first act
abbrev pub operand_starts : ℕ → List Operand → List Start
operand_starts q operands = flat_map (starts_at q operands) (range_with_len 0 (q * q))

-- the operands name slots that exist, each once
abbrev pub names_slots : List Operand → Bool
names_slots operands = are_distinct (map (λ o. o.slot) operands) && all_below SLOTS (map (λ o. o.slot) operands)

abbrev pub NamesSlots : List Operand → Type 0
NamesSlots operands = names_slots operands ≡ true

-- slot n of each rank (i, j) has part (i, j) of a matrix
abbrev pub HasParts : Arithmetic → ℕ → Sparse → ℕ → State Sparse → Type 0
HasParts s q m n state = (i j : ℕ) → i < q → j < q → state (i * q + j) n ≡ Some (block_of s q m i j)
