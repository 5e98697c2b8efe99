-- One process of a grid: its matrices, and the plan that it does.
use Rattle.std.specs.Prelude.{◌≡◌, ◌⊎◌, ℕ, List, get_or, slice_set, replicate, Option, Some, None}
use Rattle.cb_semirings.specs.Arithmetic.{Arithmetic}
use Rattle.cb_matrix.specs.Sparse.{Sparse, Extent}
use Rattle.cb_letters.specs.declared.Letter.{Letter}
use Rattle.cb_lists.specs.declared.lists.Columns.{Columns}
use Rattle.cb_messages.specs.declared.heads.Head.{Head}
use Rattle.cb_messages.specs.Messages.{IsLetterOf}
use Rattle.cb_plan.specs.declared.stores.Slot.{Slot}
use Rattle.cb_plan.specs.declared.stores.Slot.TheVariants as slot_is
use Rattle.cb_plan.specs.declared.stores.TheConstants.{SLOTS}
use Rattle.cb_plan.specs.Plans.{CheckedView}
use Rattle.cb_rank_process.specs.declared.faults.ProcessFault.{ProcessFault}
use Rattle.cb_rank_process.specs.declared.faults.ProcessFault.TheVariants as fault_is
use Rattle.cb_rank_process.specs.declared.processes.TheConstants.{REGISTERS}
use Rattle.cb_rank.specs.declared.wants.Want.{Want}
use Rattle.cb_rank.specs.declared.wants.Want.TheVariants.{Done}
use Rattle.cb_rank.specs.Ranks.{next_half, want_of}
use Rattle.cb_rank_driven.specs.DrivenRanks.{CanStart, DrivenView, HasDoneNothing, Posts, Takes}

-- a matrix that is cut over the grid: its shape, and the block of this process
pub record KeptView : Type 0 where
  pub shape : Extent
  pub block : Sparse

-- a plan that is being done, which leaves a block of a matrix of this shape in this slot
pub record TaskView : Type 0 where
  pub rank : DrivenView
  pub slot : ℕ
  pub shape : Extent

-- the side of the grid, the rank, the matrices in the registers, the plan that is being done, and a letter that was posted
-- but not handed out
pub record ProcessView : Type 0 where
  pub side : ℕ
  pub me : ℕ
  pub registers : List (Option KeptView)
  pub task : Option TaskView
  pub unsent : Option (Letter Sparse)

abbrev pub process_view : ℕ → ℕ → List (Option KeptView) → Option TaskView → Option (Letter Sparse) → ProcessView
process_view side me registers task unsent =
    record { side = side; me = me; registers = registers; task = task; unsent = unsent }

-- a process that keeps nothing, and does no plan
abbrev pub new_process : ℕ → ℕ → ProcessView
new_process side me = process_view side me (replicate REGISTERS None) None None

-- the plan that is being done is that of this rank
abbrev pub IsOf : ℕ → Option TaskView → Type 0
IsOf me (Some task) = task.rank.rank.me ≡ me
IsOf me None = Unit {0}

-- no plan is being done, and no letter is kept back
abbrev pub IsFree : ProcessView → Type 0
IsFree x = (x.task ≡ None) × (x.unsent ≡ None)

-- what is in a register
abbrev pub register_at : ProcessView → ℕ → Option KeptView
register_at x n = get_or x.registers n None

-- the same process with another plan
abbrev pub with_task : ProcessView → Option TaskView → ProcessView
with_task x task = process_view x.side x.me x.registers task x.unsent

-- the same process with these registers
abbrev pub with_registers : ProcessView → List (Option KeptView) → ProcessView
with_registers x registers = process_view x.side x.me registers x.task x.unsent

-- a register has given up its matrix
abbrev pub given_up : ℕ → List (Option KeptView) → List (Option KeptView)
given_up n registers = slice_set registers n None

-- all slots are empty
abbrev pub no_slots : List (Slot Sparse)
no_slots = replicate SLOTS slot_is.Empty

-- a process begins a plan, of which its rank, with these slots, has done nothing yet
pub record Starts (plan : CheckedView) (slot : ℕ) (shape : Extent) (slots : List (Slot Sparse)) (x y : ProcessView) : Type 0 where
  pub rank : DrivenView
  pub new_rank : HasDoneNothing plan x.me rank
  pub first : rank.first ≡ slots
  pub after : y ≡ with_task x (Some (record { rank = rank; slot = slot; shape = shape }))

-- why a plan isn't begun by a rank with these slots: they aren't those with which it begins there, or memory was refused
abbrev pub IsStartFault : CheckedView → ℕ → List (Slot Sparse) → ProcessFault → Type 0
IsStartFault plan me slots fault_is.Absent = CanStart plan me slots → ⊥
IsStartFault plan me slots fault_is.Memory = Unit {0}
IsStartFault plan me slots fault = ⊥

-- why nothing is done with the matrix in a register: there is none, or memory was refused
abbrev pub IsLackAt : ProcessView → ℕ → ProcessFault → Type 0
IsLackAt x register fault_is.Absent = register_at x register ≡ None
IsLackAt x register fault_is.Memory = Unit {0}
IsLackAt x register fault = ⊥

-- the same plan, further on
abbrev pub with_rank : TaskView → DrivenView → TaskView
with_rank t rank = record { rank = rank; slot = t.slot; shape = t.shape }

-- of a process only the rank of its plan changed, in this way
pub record Moves (step : DrivenView → DrivenView → Type 0) (x y : ProcessView) : Type 0 where
  pub task : TaskView
  pub rank : DrivenView
  pub before : x.task ≡ Some task
  pub after : y ≡ with_task x (Some (with_rank task rank))
  pub steps : step task.rank rank

-- nothing changed but that a letter isn't kept back any more
abbrev pub without_unsent : ProcessView → ProcessView
without_unsent x = process_view x.side x.me x.registers x.task None

-- a process hands out the letter that was kept back, or else posts one
abbrev pub HandsOutOf : Option (Letter Sparse) → Arithmetic → ProcessView → Letter Sparse → ProcessView → Type 0
HandsOutOf (Some kept) s x letter y = (letter ≡ kept) × (y ≡ without_unsent x)
HandsOutOf None s x letter y = Moves (λ a b. Posts s a letter b) x y

abbrev pub HandsOut : Arithmetic → ProcessView → Letter Sparse → ProcessView → Type 0
HandsOut s x letter y = HandsOutOf x.unsent s x letter y

-- the same process, which keeps this letter back
abbrev pub with_unsent : ProcessView → Letter Sparse → ProcessView
with_unsent x letter = process_view x.side x.me x.registers x.task (Some letter)

-- what a process was to hand out, it keeps back until the next call
pub record KeepsBack (s : Arithmetic) (x y : ProcessView) : Type 0 where
  pub letter : Letter Sparse
  pub handed : ProcessView
  pub out : HandsOut s x letter handed
  pub back : y ≡ with_unsent handed letter

-- nothing changed, or the letter that was to be handed out is kept back
abbrev pub IsKeptBack : Arithmetic → ProcessView → ProcessView → Type 0
IsKeptBack s x y = (y ≡ x) ⊎ KeepsBack s x y

-- the next half of a plan; none is left where there is no plan
abbrev pub wanted_by : Option TaskView → Want
wanted_by (Some task) = want_of (next_half task.rank.rank)
wanted_by None = Done

-- a process takes the letter of this head and these lists
pub record TakesIn (s : Arithmetic) (x : ProcessView) (head : Head) (lists : Columns) (y : ProcessView) : Type 0 where
  pub letter : Letter Sparse
  pub letter_is : IsLetterOf s letter head lists
  pub takes : Moves (λ a b. Takes s a letter b) x y
