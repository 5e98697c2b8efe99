-- What a process keeps when a plan ends.
use Rattle.std.specs.Prelude.{◌≡◌, ◌≢◌, ◌<◌, ℕ, List, [], get_or, slice_set, Some, None, Ok}
use mathlib.Core.List.{IsPrefix}
use Rattle.cb_semirings.specs.Arithmetic.{Arithmetic}
use Rattle.cb_matrix.specs.Sparse.{Sparse}
use Rattle.cb_plan.specs.Plans.{CheckedView}
use Rattle.cb_plan.specs.Programs.{project}
use Rattle.cb_rank.specs.Halves.{Course, RunsTo}
use Rattle.cb_rank_runs.specs.Runs.{fresh}
use Rattle.cb_rank_driven.specs.Joined.{IsLeft, IsOneOf, WasRefused}
use Rattle.cb_rank_process.specs.declared.faults.ProcessFault.{ProcessFault}
use Rattle.cb_rank_process.specs.declared.faults.ProcessFault.TheVariants as fault_is
use Rattle.cb_rank_process.specs.Processes.{KeptView, TaskView, ProcessView}
use Rattle.cb_rank_process.specs.Results.{Brings, Stores}

-- the block that the plan left is in this register, and there is no plan any more
abbrev pub with_kept : ProcessView → ℕ → KeptView → ProcessView
with_kept x register kept =
    record { side = x.side; me = x.me; registers = slice_set x.registers register (Some kept); task = None; unsent = x.unsent }

-- A joint run of a plan: each rank did its own program by itself, from these first slots; and on each lane the letters taken are the
-- first of those posted. Nothing else is trusted of the other processes, and of what carried the letters.
pub record IsJointRun (s : Arithmetic) (plan : CheckedView) (first : Stores) (courses : ℕ → Course) : Type 0 where
  pub ran : (r : ℕ) → r < plan.ranks → RunsTo s r (project plan.starts plan.acts r) (fresh (get_or first r [])) (courses r)
  pub order : (from to : ℕ) → from < plan.ranks → to < plan.ranks → from ≢ to → IsPrefix ((courses to).taken from) ((courses from).posted to)

-- The processes of a grid did a plan in a joint run, of which this task is one rank's part; and from the slots with which they began, the
-- plan brings each its part of a result.
pub record IsOneRun (s : Arithmetic) (part : ℕ → Sparse) (first : Stores) (courses : ℕ → Course) (task : TaskView) : Type 0 where
  pub brings : Brings s task.rank.rank.plan task.slot first part
  pub run : IsJointRun s task.rank.rank.plan first courses
  pub one : IsOneOf task.rank first courses

-- a block is this process's part of the result, whatever result the plan brings, and from whatever slots
abbrev pub IsPartOf : Arithmetic → ProcessView → TaskView → Sparse → Type 0
IsPartOf s x task block =
    (part : ℕ → Sparse) (first : Stores) (courses : ℕ → Course) → IsOneRun s part first courses task → block ≡ part x.me

-- a process keeps the block that its rank leaves, which is its part of the result
pub record Keeps (s : Arithmetic) (x : ProcessView) (register : ℕ) (y : ProcessView) : Type 0 where
  pub task : TaskView
  pub block : Sparse
  pub was : x.task ≡ Some task
  pub left : IsLeft task.rank task.slot (Ok block)
  pub part : IsPartOf s x task block
  pub after : y ≡ with_kept x register (record { shape = task.shape; block = block })

-- a fault names a rank that was refused memory, if it says that the block was lost
abbrev pub IsEndFault : Arithmetic → ProcessView → ProcessFault → Type 0
IsEndFault s x (fault_is.Lost origin) =
    (part : ℕ → Sparse) (first : Stores) (courses : ℕ → Course) (task : TaskView)
    → x.task ≡ Some task → IsOneRun s part first courses task → WasRefused task.rank.rank.plan courses origin
IsEndFault s x fault = Unit {0}
