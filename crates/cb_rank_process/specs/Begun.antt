-- How a process begins an operation on the matrices in its first registers, or to bring a matrix into the order of its text.
use Rattle.std.specs.Prelude.{◌≡◌, ◌<◌, ℕ, zero, suc, ◌+◌, ◌*◌, ◌/◌, ◌%◌, List, [], ◌∷◌, length, map, get_or, slice_set, All, Option, Some, None, IsSome}
use Rattle.std.specs.List.{range_with_len}
use Rattle.cb_semirings.specs.Arithmetic.{Arithmetic}
use Rattle.cb_matrix.specs.Sparse.{Sparse, Extent, IsMatrix}
use Rattle.cb_matrix.specs.Values.{empty_matrix}
use Rattle.cb_grid.specs.Parts.{part_shape}
use Rattle.cb_plan.specs.declared.plans.Planned.{Planned}
use Rattle.cb_plan.specs.declared.stores.Slot.{Slot}
use Rattle.cb_plan.specs.declared.stores.Slot.TheVariants as slot_is
use Rattle.cb_plan.specs.Plans.{CheckedView}
use Rattle.cb_plan_parts.specs.PlanParts.{operand_starts}
use Rattle.cb_plan_slots.specs.Slots.{HasOperands, block_of_rank}
use Rattle.cb_plan_transfers.specs.Panels.{IsPanelsPlan, panel_of, panels_acts}
use Rattle.cb_operations.specs.declared.operations.Operation.{Operation}
use Rattle.cb_operations.specs.OperationAnswers.{Agree, answer_of, matrix_at, operand_count_of, shape_of, shapes_in}
use Rattle.cb_planner.specs.OperationPlans.{Computes, placed_operands}
use Rattle.cb_rank_process.specs.declared.faults.ProcessFault.{ProcessFault}
use Rattle.cb_rank_process.specs.declared.faults.ProcessFault.TheVariants as fault_is
use Rattle.cb_rank_process.specs.Processes.{KeptView, TaskView, ProcessView, IsFree, Starts, given_up, no_slots, register_at, with_registers}
use Rattle.cb_rank_process.specs.Results.{BeginsToBring}

-- the block of a kept matrix, or one of 0 by 0 if there is none
abbrev pub block_in : Option KeptView → Sparse
block_in (Some kept) = kept.block
block_in None = empty_matrix (record { rows = 0; cols = 0 })

-- the shape of a kept matrix, or 0 by 0 if there is none
abbrev pub shape_in : Option KeptView → Extent
shape_in (Some kept) = kept.shape
shape_in None = record { rows = 0; cols = 0 }

-- the shapes of the matrices in the first so many registers
abbrev pub operand_shapes : ProcessView → ℕ → List Extent
operand_shapes x n = map (λ i. shape_in (register_at x i)) (range_with_len 0 n)

-- the first so many registers have matrices
abbrev pub HaveMatrices : ProcessView → ℕ → Type 0
HaveMatrices x n = (i : ℕ) → i < n → IsSome (register_at x i)

-- the block of a kept matrix has the shape of this rank's part of it
abbrev pub HasPart : ℕ → ℕ → Option KeptView → Type 0
HasPart q me (Some kept) = kept.block.shape ≡ part_shape q kept.shape (me / q) (me % q)
HasPart q me None = ⊥

-- the first so many registers have matrices, with the blocks of a rank of the grid
pub record HaveParts (x : ProcessView) (n : ℕ) : Type 0 where
  pub rank : x.me < x.side * x.side
  pub parts : (i : ℕ) → i < n → HasPart x.side x.me (register_at x i)

-- the first registers have the blocks of these matrices, in order
abbrev pub HoldsBlocks : Arithmetic → List Sparse → ProcessView → Type 0
HoldsBlocks s ms x =
    (i : ℕ) → i < length ms
    → register_at x i ≡ Some (record { shape = (matrix_at ms i).shape; block = block_of_rank s x.side (matrix_at ms i) x.me })

-- the block in a register is put into a slot
abbrev pub slot_from : ProcessView → ℕ → ℕ → List (Slot Sparse) → List (Slot Sparse)
slot_from x n slot slots = slice_set slots slot (slot_is.Sheet (block_in (register_at x n)))

-- the slots of a rank with the blocks of the first so many registers in the slots of operands, 0, 1 and 7
abbrev pub operand_slots : ProcessView → ℕ → List (Slot Sparse)
operand_slots x (suc zero) = slot_from x 0 0 no_slots
operand_slots x (suc (suc zero)) = slot_from x 1 1 (slot_from x 0 0 no_slots)
operand_slots x n = slot_from x 2 7 (slot_from x 1 1 (slot_from x 0 0 no_slots))

-- the first so many registers have given up their matrices
abbrev pub all_given_up : ℕ → List (Option KeptView) → List (Option KeptView)
all_given_up zero registers = registers
all_given_up (suc n) registers = given_up n (all_given_up n registers)

-- on a grid of this side the plan computes the operation from matrices of these shapes, and the slot has each rank's block
pub record IsPlanOf (operation : Operation) (q : ℕ) (shapes : List Extent) (plan : CheckedView) (slot : ℕ) : Type 0 where
  pub planned : Planned
  pub computes : Computes operation q shapes planned
  pub plan_is : plan ≡ record { ranks = planned.plan.ranks; starts = planned.starts.items; acts = planned.plan.acts }
  pub slot_is : slot ≡ planned.result

-- a process whose first registers have given up the operands
abbrev pub after_giving_up : Operation → ProcessView → ProcessView
after_giving_up operation x = with_registers x (all_given_up (operand_count_of operation) x.registers)

-- A process begins an operation on the matrices in its first registers, which give them up: it has done nothing yet of a plan
-- that computes this operation from matrices of their shapes, which agree, and has their blocks in the slots of operands.
pub record Operates (operation : Operation) (x y : ProcessView) : Type 0 where
  pub free : IsFree x
  pub matrices : HaveMatrices x (operand_count_of operation)
  pub agree : Agree operation (operand_shapes x (operand_count_of operation))
  pub plan : CheckedView
  pub slot : ℕ
  pub plan_is : IsPlanOf operation x.side (operand_shapes x (operand_count_of operation)) plan slot
  pub starts : Starts plan slot (shape_of operation (operand_shapes x (operand_count_of operation))) (operand_slots x (operand_count_of operation)) (after_giving_up operation x) y

-- what a process began is the operation on these matrices: its plan computes that, and its first slots are this rank's if all
-- ranks begin with the blocks of these matrices
pub record IsOperationOn (s : Arithmetic) (operation : Operation) (ms : List Sparse) (x y : ProcessView) : Type 0 where
  pub task : TaskView
  pub begun : y.task ≡ Some task
  pub plan : IsPlanOf operation x.side (shapes_in ms) task.rank.rank.plan task.slot
  pub shape : task.shape ≡ shape_of operation (shapes_in ms)
  pub first : (first : List (List (Slot Sparse))) → HasOperands s x.side (placed_operands ms) first → x.me < x.side * x.side
      → task.rank.first ≡ get_or first x.me []

-- whatever the matrices are whose blocks the registers have, it is the operation on these
abbrev pub OperatesOn : Arithmetic → Operation → ProcessView → ProcessView → Type 0
OperatesOn s operation x y = (ms : List Sparse) → length ms ≡ operand_count_of operation → HoldsBlocks s ms x → IsOperationOn s operation ms x y

-- a rank's block of the answer of an operation on these matrices
abbrev pub answer_block : Arithmetic → ℕ → Operation → List Sparse → ℕ → Sparse
answer_block s q operation ms r = block_of_rank s q (answer_of operation s ms) r

-- and it brings each rank its block of the answer, if the ranks begin with their blocks of these matrices
abbrev pub BringsAnswer : Arithmetic → Operation → ProcessView → ProcessView → Type 0
BringsAnswer s operation x y =
    (ms : List Sparse) → length ms ≡ operand_count_of operation → All (IsMatrix s) ms → HoldsBlocks s ms x
    → BeginsToBring s (HasOperands s x.side (placed_operands ms)) (shape_of operation (shapes_in ms)) (answer_block s x.side operation ms) x y

-- why the first so many registers have no operands
abbrev pub IsLack : ProcessView → ℕ → ProcessFault → Type 0
IsLack x n fault_is.Absent = HaveMatrices x n → ⊥
IsLack x n fault_is.Memory = Unit {0}
IsLack x n fault = ⊥

-- why an operation isn't begun: another call is next; a register has no matrix, or no block of this rank's part of it; the
-- shapes don't agree; or memory was refused
abbrev pub IsOperateFault : Operation → ProcessView → ProcessFault → Type 0
IsOperateFault operation x fault_is.NotNow = IsFree x → ⊥
IsOperateFault operation x fault_is.Absent = IsFree x × (HaveParts x (operand_count_of operation) → ⊥)
IsOperateFault operation x fault_is.Shapes =
    IsFree x × HaveMatrices x (operand_count_of operation) × (Agree operation (operand_shapes x (operand_count_of operation)) → ⊥)
IsOperateFault operation x fault_is.Memory = IsFree x
IsOperateFault operation x fault = ⊥

-- The plan for writing a matrix of this shape, on a grid of this side: all ranks begin with their blocks of the matrix, in slot 0,
-- and the plan leaves in a slot of each its panel of the matrix. It is the same plan for all ranks.
pub record IsPanelsPlanOf (q : ℕ) (shape : Extent) (plan : CheckedView) (slot : ℕ) : Type 0 where
  pub ranks : plan.ranks ≡ q * q
  pub starts : plan.starts ≡ operand_starts q (record { slot = 0; shape = shape } ∷ [])
  pub acts : plan.acts ≡ panels_acts q shape
  pub slot_is : slot ≡ 1 + q
  pub panels : IsPanelsPlan plan.acts q shape slot

-- A process begins a plan that leaves each rank its panel of a matrix: it has its block of the matrix in a register in slot 0, and
-- nothing else, and the register gives it up.
pub record Gathers (register : ℕ) (x y : ProcessView) : Type 0 where
  pub free : IsFree x
  pub kept : KeptView
  pub was : register_at x register ≡ Some kept
  pub plan : CheckedView
  pub slot : ℕ
  pub plan_is : IsPanelsPlanOf x.side kept.shape plan slot
  pub starts : Starts plan slot kept.shape (slot_from x register 0 no_slots) (with_registers x (given_up register x.registers)) y

-- the panel of rank r
abbrev pub panel_of_rank : Arithmetic → ℕ → Sparse → ℕ → Sparse
panel_of_rank s q m r = panel_of s q m (r / q) (r % q)

-- whatever matrix it is whose block the register has: what was begun brings each rank its panel of it, if the ranks begin with
-- their blocks of it
abbrev pub BringsPanels : Arithmetic → ℕ → ProcessView → ProcessView → Type 0
BringsPanels s register x y =
    (m : Sparse) → IsMatrix s m → register_at x register ≡ Some (record { shape = m.shape; block = block_of_rank s x.side m x.me })
    → BeginsToBring s (HasOperands s x.side ((0, m) ∷ [])) m.shape (panel_of_rank s x.side m) x y

-- why that isn't begun: another call is next; the register has no matrix, or no block of this rank's part of it; or memory was
-- refused
abbrev pub IsGatherFault : ℕ → ProcessView → ProcessFault → Type 0
IsGatherFault register x fault_is.NotNow = IsFree x → ⊥
IsGatherFault register x fault_is.Absent = IsFree x × (x.me < x.side * x.side → HasPart x.side x.me (register_at x register) → ⊥)
IsGatherFault register x fault_is.Memory = IsFree x × IsSome (register_at x register)
IsGatherFault register x fault = ⊥
