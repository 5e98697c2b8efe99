-- What all ranks of a plan leave once each has run its program in a thread of its own.
use Rattle.std.specs.Prelude.{◌≡◌, ◌≢◌, ℕ, ◌<◌, ◌^◌, List, [], length, get_or, sum}
use Rattle.cb_semirings.specs.Arithmetic.{Arithmetic}
use Rattle.cb_matrix.specs.Sparse.{Sparse}
use Rattle.cb_letters.specs.declared.Letter.{Letter}
use Rattle.cb_plan.specs.declared.stores.Slot.{Slot}
use Rattle.cb_plan.specs.Algebras.{matrices}
use Rattle.cb_plan.specs.PlanLetters.{letters}
use Rattle.cb_plan.specs.Plans.{CheckedView, IsChecked}
use Rattle.cb_plan.specs.Programs.{project}
use Rattle.cb_plan.specs.Stores.{state_of}
use Rattle.cb_rank.specs.Agreement.{AreLettersOf}
use Rattle.cb_rank.specs.Halves.{Course, RunsTo}
use Rattle.cb_rank.specs.Leavings.{HoldsMeaning}
use Rattle.cb_rank_runs.specs.Runs.{fresh}

-- the store of each rank, how often each was refused memory, the letters that were posted and taken on the lane from each rank
-- to each, and how many letters it holds at once
pub record FinishedView : Type 0 where
  pub stores : List (List (Slot Sparse))
  pub refusals : List ℕ
  pub posted : ℕ → ℕ → List (Letter Sparse)
  pub taken : ℕ → ℕ → List (Letter Sparse)
  pub capacity : ℕ → ℕ → ℕ

-- how often this rank was refused memory
abbrev pub refused_at : FinishedView → ℕ → ℕ
refused_at f r = get_or f.refusals r 0

-- how often any rank was
abbrev pub all_refusals : FinishedView → ℕ
all_refusals f = sum f.refusals

-- what every such run keeps: a count of refusals for each rank, and their sum is a number of 64 bits
pub record IsFinished (f : FinishedView) : Type 0 where
  pub ranks : length f.refusals ≡ length f.stores
  pub fits : all_refusals f < 2 ^ 64

-- there is a lane between these two ranks
abbrev pub IsLaneOf : FinishedView → ℕ → ℕ → Type 0
IsLaneOf f from to = (from < length f.stores) × (to < length f.stores) × (from ≢ to)

-- each lane between two of this many ranks holds this many letters at once
abbrev pub LanesHold : ℕ → ℕ → FinishedView → Type 0
LanesHold ranks c f = (from to : ℕ) → from < ranks → to < ranks → from ≢ to → f.capacity from to ≡ c

-- on the lane from one rank to another all letters of the plan were posted, the close mark included, and all were taken
pub record HasLetters (s : Arithmetic) (p : CheckedView) (first : List (List (Slot Sparse))) (f : FinishedView) (from to : ℕ) : Type 0 where
  pub posted : AreLettersOf (refused_at f) from to 0 (letters (matrices s) p.acts (state_of first) from to) (f.posted from to)
  pub taken : f.taken from to ≡ f.posted from to
  pub count : length (f.posted from to) ≡ length (letters (matrices s) p.acts (state_of first) from to)

-- how far a rank has come: what it left, and the letters that it posted and took
abbrev pub course_in : FinishedView → ℕ → Course
course_in f r = record { slots = get_or f.stores r []; refusals = get_or f.refusals r 0; posted = f.posted r; taken = λ k. f.taken k r }

-- this rank of a plan did its whole program by itself, half by half, from its part of the first stores
abbrev pub DidProgram : Arithmetic → CheckedView → List (List (Slot Sparse)) → ℕ → Type 0
DidProgram s p first r = (end : Course) × RunsTo s r (project p.starts p.acts r) (fresh (get_or first r [])) end

-- each rank of a plan did its own program, half by half, from its part of the first stores
abbrev pub AllRun : Arithmetic → CheckedView → List (List (Slot Sparse)) → FinishedView → Type 0
AllRun s p first f = (r : ℕ) → r < p.ranks → RunsTo s r (project p.starts p.acts r) (fresh (get_or first r [])) (course_in f r)

-- the ranks of a checked plan have done what the plan means for these first stores
pub record FinishesPlan (s : Arithmetic) (p : CheckedView) (first : List (List (Slot Sparse))) (f : FinishedView) : Type 0 where
  pub checked : IsChecked p
  -- rank numbers have 16 bits
  pub few : p.ranks < 2 ^ 16
  -- what they leave holds what the plan means
  pub left : HoldsMeaning s p first f.stores f.refusals
  -- on each lane its letters were posted and taken
  pub lanes : (from to : ℕ) → from < p.ranks → to < p.ranks → from ≢ to → HasLetters s p first f from to
  -- each rank did its own program
  pub halves : AllRun s p first f
