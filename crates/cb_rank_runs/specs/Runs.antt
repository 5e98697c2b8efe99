-- What one rank leaves once it has run its whole program over its desk.
use Rattle.std.specs.Prelude.{◌≡◌, ◌≢◌, ℕ, ◌<◌, List, [], length}
use Rattle.cb_semirings.specs.Arithmetic.{Arithmetic}
use Rattle.cb_matrix.specs.Sparse.{Sparse}
use Rattle.cb_plan.specs.declared.stores.Slot.{Slot}
use Rattle.cb_lanes.specs.declared.desk.Desk.{Desk}
use Rattle.cb_lanes.specs.Desks.{identity, capacity_to, posted_to, taken_from, IsNewDesk}
use Rattle.cb_rings.specs.Numbers.{AreNumbered}
use Rattle.cb_rank.specs.Halves.{Course, RunsTo}
use Rattle.cb_rank.specs.Ranks.{RankView, IsRank}

-- a rank with these slots that has done nothing: nothing was refused, posted or taken
abbrev pub fresh : List (Slot Sparse) → Course
fresh slots = record { slots = slots; refusals = 0; posted = λ _. []; taken = λ _. [] }

-- how far a rank has come over its desk
abbrev pub course_of : RankView → Desk Sparse → Course
course_of x d = record { slots = x.slots; refusals = x.refusals; posted = posted_to d; taken = taken_from d }

-- this is another rank of the rank's plan, so there is a lane to it
abbrev pub IsOther : RankView → ℕ → Type 0
IsOther x k = (k < x.plan.ranks) × (k ≢ x.me)

-- a rank that has done nothing, and its desk among those of its plan's ranks, on which nothing was posted or taken
pub record IsNewRun (x : RankView) (d : Desk Sparse) : Type 0 where
  pub undone : x.done ≡ 0
  pub capacity : ℕ
  pub desk : IsNewDesk capacity x.plan.ranks x.me d

-- a rank has run its whole program over its desk, from x and d to y and e
pub record Runs (s : Arithmetic) (x : RankView) (d : Desk Sparse) (y : RankView) (e : Desk Sparse) : Type 0 where
  -- it is the same rank of the same plan, and has done every half
  pub done : y ≡ record x { done = length x.program; slots = y.slots; refusals = y.refusals }
  -- half by half: each Post and Shut added its letter to what was posted, each Take and End to what was taken, and nothing else
  -- was posted or taken
  pub halves : RunsTo s x.me x.program (course_of x d) (course_of y e)
  -- the letters taken on each lane are numbered from 0
  pub numbered : (k : ℕ) → AreNumbered (taken_from e k)
  -- it is the desk of the same rank, with ends of the same rings
  pub rings : identity e ≡ identity d
  -- its lanes hold as many letters as they did
  pub capacities : (k : ℕ) → capacity_to e k ≡ capacity_to d k
  pub rank : IsRank y
