-- What a run of a plan by its ranks leaves, and why it fails.
use Rattle.std.specs.Prelude.{◌≡◌, ℕ, ◌<◌, List, length, get_or, Option, Some, None}
use Rattle.cb_semirings.specs.Arithmetic.{Arithmetic}
use Rattle.cb_matrix.specs.Sparse.{Sparse, Extent}
use Rattle.cb_layout.specs.Distributed.{Distributed}
use Rattle.cb_plan.specs.declared.plans.Planned.{Planned}
use Rattle.cb_plan.specs.declared.stores.Slot.{Slot}
use Rattle.cb_plan.specs.declared.stores.Slot.TheVariants as slot_is
use Rattle.cb_plan.specs.Plans.{CheckedView}
use Rattle.cb_plan.specs.PlanTables.{cell}
use Rattle.cb_plan_slots.specs.Answers.{Makes, over_grid}
use Rattle.cb_plan_slots.specs.Losses.{IsFirstLoss}
use Rattle.cb_rank_threads.specs.Traced.{HasProgram}
use Rattle.cb_trace.specs.Traces.{TraceView, AreLegalEvents, AreOnLanes}
use Rattle.cb_rank_engines.specs.declared.engines.Engine.{Engine}
use Rattle.cb_rank_engines.specs.declared.engines.Engine.TheVariants.{Threads, Traced, InOrder}
use Rattle.cb_rank_faults.specs.declared.RanksFault.{RanksFault}
use Rattle.cb_rank_faults.specs.declared.RanksFault.TheVariants.{Memory, NotStarted, Gone, TraceTorn, Lost}

-- a plan, as a checked one
abbrev pub checked_of : Planned → CheckedView
checked_of planned = record { ranks = planned.plan.ranks; starts = planned.starts.items; acts = planned.plan.acts }

-- each lost slot names a rank that was refused memory
abbrev pub LostWhereRefused : List (List (Slot Sparse)) → List ℕ → Type 0
LostWhereRefused stores refusals =
    (r n origin : ℕ) → cell slot_is.Empty stores r n ≡ slot_is.Lost origin → (origin < length refusals) × (0 < get_or refusals origin 0)

-- over the grid, this is the answer that the plan makes of these matrices in these slots
abbrev pub IsMade : Arithmetic → ℕ → List (ℕ × Sparse) → Planned → Extent → Distributed → Type 0
IsMade s q operands planned shape d =
    (answer : Sparse) → Makes s q operands planned shape answer → d ≡ over_grid q answer

-- the trace that an engine keeps of a plan: a legal one that has the program of each rank, or none
abbrev pub IsTraceOf : Engine → CheckedView → Option TraceView → Type 0
IsTraceOf (Traced capacity) plan (Some t) = HasProgram plan t × AreLegalEvents t.events × AreOnLanes t.ranks t.events
IsTraceOf (Traced capacity) plan None = ⊥
IsTraceOf (Threads capacity) plan t = t ≡ None
IsTraceOf (InOrder capacity order) plan t = t ≡ None

-- the engine runs its ranks in threads
abbrev pub HasThreads : Engine → Type 0
HasThreads (Threads capacity) = Unit {0}
HasThreads (Traced capacity) = Unit {0}
HasThreads (InOrder capacity order) = ⊥

-- the engine keeps a trace
abbrev pub KeepsTrace : Engine → Type 0
KeepsTrace (Threads capacity) = ⊥
KeepsTrace (Traced capacity) = Unit {0}
KeepsTrace (InOrder capacity order) = ⊥

-- Why a run of so many ranks fails: memory was refused; one of them wasn't started, or was left alone; the trace is torn;
-- or a block of the answer is lost at one of them, which was refused memory `count` times.
abbrev pub IsEngineFault : Engine → ℕ → RanksFault → Type 0
IsEngineFault engine ranks Memory = Unit {0}
IsEngineFault engine ranks (NotStarted r) = HasThreads engine × (r < ranks)
IsEngineFault engine ranks (Gone r) = HasThreads engine × (r < ranks)
IsEngineFault engine ranks TraceTorn = KeepsTrace engine
IsEngineFault engine ranks (Lost r count) = (r < ranks) × (0 < count)

-- the fault isn't a lost block
abbrev pub IsNoLoss : RanksFault → Type 0
IsNoLoss (Lost r count) = ⊥
IsNoLoss _ = Unit {0}

-- Some of the blocks that ranks left in slot n are lost: the first loss, by rank, names rank r, which was refused memory
-- `count` times.
pub record IsLostBlock (n : ℕ) (stores : List (List (Slot Sparse))) (refusals : List ℕ) (r count : ℕ) : Type 0 where
  pub first : IsFirstLoss n stores r
  pub rank : r < length refusals
  pub some : 0 < count
  pub own : count ≡ get_or refusals r 0

-- why the blocks that ranks left in slot n can't be gathered: memory was refused, or some of them are lost
abbrev pub IsLossFault : ℕ → List (List (Slot Sparse)) → List ℕ → RanksFault → Type 0
IsLossFault n stores refusals Memory = Unit {0}
IsLossFault n stores refusals (Lost r count) = IsLostBlock n stores refusals r count
IsLossFault n stores refusals _ = ⊥
