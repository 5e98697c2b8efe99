-- What the plan that a process begins is for: it brings each rank of the grid its part of a result.
use Rattle.std.specs.Prelude.{◌≡◌, ◌<◌, ℕ, ◌*◌, ◌==◌, if◌then◌else◌, List, [], get_or, Some}
use Rattle.cb_semirings.specs.Arithmetic.{Arithmetic}
use Rattle.cb_matrix.specs.Sparse.{Sparse, Extent}
use Rattle.cb_plan.specs.declared.stores.Slot.{Slot}
use Rattle.cb_plan.specs.declared.stores.Slot.TheVariants as slot_is
use Rattle.cb_plan.specs.declared.stores.TheConstants.{SLOTS}
use Rattle.cb_plan.specs.Algebras.{matrices}
use Rattle.cb_plan.specs.Meaning.{meaning}
use Rattle.cb_plan.specs.Plans.{CheckedView}
use Rattle.cb_plan.specs.PlanTables.{cell, IsTable}
use Rattle.cb_plan.specs.Stores.{state_of, Fits}
use Rattle.cb_plan_transfers.specs.Pieces.{IsPiece}
use Rattle.cb_rank_process.specs.Processes.{ProcessView, TaskView}

-- the slots of all ranks
abbrev pub Stores : Type 0
Stores = List (List (Slot Sparse))

-- The first slots of the ranks fit a plan, and from these it leaves in one slot of each rank its part of a result.
pub record Brings (s : Arithmetic) (plan : CheckedView) (slot : ℕ) (first : Stores) (part : ℕ → Sparse) : Type 0 where
  pub fits : Fits plan.ranks plan.starts first
  pub leaves : (r : ℕ) → r < plan.ranks → meaning (matrices s) plan.acts (state_of first) r slot ≡ Some (part r)

-- What a process began brings each rank its part of a matrix of this shape, from whatever first slots of the ranks this holds
-- of; and the process has its own of these.
pub record BeginsToBring (s : Arithmetic) (AreFirst : Stores → Type 0) (shape : Extent) (part : ℕ → Sparse) (x y : ProcessView) : Type 0 where
  pub task : TaskView
  pub begun : y.task ≡ Some task
  pub shaped : task.shape ≡ shape
  pub brings : (first : Stores) → AreFirst first → Brings s task.rank.rank.plan task.slot first part
  pub own : (first : Stores) → AreFirst first → x.me < x.side * x.side → task.rank.first ≡ get_or first x.me []

-- the ranks of a grid have these pieces, matrices of this shape, in slot 0, and nothing else
pub record HavePieces (s : Arithmetic) (q : ℕ) (shape : Extent) (pieces : ℕ → Sparse) (first : Stores) : Type 0 where
  pub some : 0 < q
  pub each : (r : ℕ) → r < q * q → IsPiece s shape (pieces r)
  pub table : IsTable (q * q) SLOTS first
  pub cells : (r k : ℕ) → r < q * q → cell slot_is.Empty first r k ≡ (if 0 == k then slot_is.Sheet (pieces r) else slot_is.Empty)
