-- The lanes of desks that were settled.
use Rattle.std.specs.Prelude.{ℕ, ◌≢◌, ◌<◌, List, length}
use Rattle.cb_letters.specs.declared.Letter.{Letter}
use Rattle.cb_lanes.specs.declared.settled.Settled.{Settled}
use Rattle.cb_lanes.specs.Desks.{capacity_in, posted_in, taken_in}

module _ {P : Type 0} where
  -- the number of ranks
  abbrev pub rank_count : Settled P → ℕ
  rank_count s = length s.desks.items

  -- there is a lane between these two ranks
  abbrev pub IsLane : Settled P → ℕ → ℕ → Type 0
  IsLane s from to = (from < rank_count s) × (to < rank_count s) × (from ≢ to)

  -- how many letters the lane from one rank to another holds
  abbrev pub capacity_on : Settled P → ℕ → ℕ → ℕ
  capacity_on s from to = capacity_in s.desks.items from to

  -- the letters that were posted on the lane from one rank to another, oldest first
  abbrev pub posted_on : Settled P → ℕ → ℕ → List (Letter P)
  posted_on s from to = posted_in s.desks.items from to

  -- the letters that were taken on it, oldest first
  abbrev pub taken_on : Settled P → ℕ → ℕ → List (Letter P)
  taken_on s from to = taken_in s.desks.items from to
