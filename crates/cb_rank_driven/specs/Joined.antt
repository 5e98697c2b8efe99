-- What the ranks of one run leave together, wherever each of them ran.
use Rattle.std.specs.Prelude.{◌≡◌, ◌≢◌, ℕ, ◌<◌, true, List, [], get_or, None, Result, Ok, Err}
use mathlib.Core.List.{IsPrefix}
use Rattle.cb_semirings.specs.Arithmetic.{Arithmetic}
use Rattle.cb_matrix.specs.Sparse.{Sparse, Extent}
use Rattle.cb_plan.specs.declared.plans.Planned.{Planned}
use Rattle.cb_plan.specs.declared.stores.Slot.{Slot}
use Rattle.cb_plan.specs.declared.stores.Slot.TheVariants as slot_is
use Rattle.cb_plan.specs.Plans.{CheckedView}
use Rattle.cb_plan.specs.Programs.{project}
use Rattle.cb_plan_slots.specs.Answers.{Makes}
use Rattle.cb_plan_slots.specs.Slots.{HasOperands, block_of_rank}
use Rattle.cb_rank.specs.Halves.{Course, RunsTo, slot_at, is_sheet}
use Rattle.cb_rank.specs.Ranks.{next_half}
use Rattle.cb_rank_runs.specs.Runs.{fresh}
use Rattle.cb_rank_driven.specs.declared.driven_ranks.NoBlock.{NoBlock}
use Rattle.cb_rank_driven.specs.declared.driven_ranks.NoBlock.TheVariants as none_as
use Rattle.cb_rank_driven.specs.DrivenRanks.{DrivenView, course_in}

-- what is handed over of a slot: its block, or why there is none
abbrev pub IsHeld : {R : Type 0} → Slot Sparse → Result Sparse (NoBlock R) → Type 0
IsHeld slot (Ok block) = slot ≡ slot_is.Sheet block
IsHeld slot (Err (none_as.NotDone r)) = ⊥
IsHeld slot (Err none_as.Empty) = slot ≡ slot_is.Empty
IsHeld slot (Err (none_as.Lost origin)) = slot ≡ slot_is.Lost origin
IsHeld slot (Err none_as.Memory) = is_sheet slot ≡ true

-- what a rank hands over of a slot: the rank as it is, if some halves aren't done, and otherwise what the slot holds
abbrev pub IsLeft : DrivenView → ℕ → Result Sparse (NoBlock DrivenView) → Type 0
IsLeft x slot (Err (none_as.NotDone y)) = (y ≡ x) × (next_half x.rank ≢ None)
IsLeft x slot result = (next_half x.rank ≡ None) × IsHeld (slot_at x.rank.slots slot) result

-- What is trusted of the other processes and of what carries their letters, for a run over these operands: the ranks began
-- with the blocks of these matrices; each did its own program by itself; and on each lane the letters taken are the first of
-- those posted.
pub record AreOfOneRun (s : Arithmetic) (q : ℕ) (operands : List (ℕ × Sparse)) (p : CheckedView) (first : List (List (Slot Sparse))) (courses : ℕ → Course) : Type 0 where
  pub began : HasOperands s q operands first
  pub ran : (r : ℕ) → r < p.ranks → RunsTo s r (project p.starts p.acts r) (fresh (get_or first r [])) (courses r)
  pub order : (from to : ℕ) → from < p.ranks → to < p.ranks → from ≢ to → IsPrefix ((courses to).taken from) ((courses from).posted to)

-- this rank is one of those
pub record IsOneOf (x : DrivenView) (first : List (List (Slot Sparse))) (courses : ℕ → Course) : Type 0 where
  pub began : x.first ≡ get_or first x.rank.me []
  pub course : course_in x ≡ courses x.rank.me

-- a rank of the plan that was refused memory
abbrev pub WasRefused : CheckedView → (ℕ → Course) → ℕ → Type 0
WasRefused p courses r = (r < p.ranks) × (0 < (courses r).refusals)

-- a rank hands over this block, or names a rank that was refused memory, unless it is refused memory for a copy now
abbrev pub IsShare : {R : Type 0} → CheckedView → (ℕ → Course) → Sparse → Result Sparse (NoBlock R) → Type 0
IsShare p courses m (Ok block) = block ≡ m
IsShare p courses m (Err (none_as.NotDone r)) = Unit {0}
IsShare p courses m (Err none_as.Empty) = ⊥
IsShare p courses m (Err (none_as.Lost origin)) = WasRefused p courses origin
IsShare p courses m (Err none_as.Memory) = Unit {0}

-- Whatever the matrices are from whose blocks the ranks began: if the plan makes an answer of them, and this rank is one of
-- those of one run, then it hands over its block of the answer, or names a rank that was refused memory.
abbrev pub IsPartOfAnswer : Arithmetic → DrivenView → ℕ → Result Sparse (NoBlock DrivenView) → Type 0
IsPartOfAnswer s x slot result =
    (q : ℕ) (operands : List (ℕ × Sparse)) (planned : Planned) (shape : Extent) (answer : Sparse) (first : List (List (Slot Sparse))) (courses : ℕ → Course)
    → Makes s q operands planned shape answer
    → x.rank.plan ≡ record { ranks = planned.plan.ranks; starts = planned.starts.items; acts = planned.plan.acts }
    → slot ≡ planned.result
    → AreOfOneRun s q operands x.rank.plan first courses
    → IsOneOf x first courses
    → IsShare x.rank.plan courses (block_of_rank s q answer x.rank.me) result
