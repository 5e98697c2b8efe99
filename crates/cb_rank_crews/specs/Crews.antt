-- What a contract sees of a crew.
use Rattle.std.specs.Prelude.{ℕ, length, Option, Some, None}
use Rattle.cb_semirings.specs.declared.Semiring.{Ghosts as SemiringGhosts}
use Rattle.cb_rank_runs.specs.Crews.{Member}
use Rattle.cb_rank_crews.specs.declared.messages.Naming.{Ghosts as NamingGhosts}
use Rattle.cb_rank_crews.specs.declared.crew.Crew.{Crew}
use Rattle.cb_rank_crews.specs.declared.workers.Busy.{Busy}

module _ {S J : Type 0} {A : SemiringGhosts S} {N : NamingGhosts J} where
  -- how many workers it has
  abbrev pub size : Crew S J A N → ℕ
  size c = length c.idle.items

  -- how many workers there are, if there is a crew
  abbrev pub workers_of : Option (Crew S J A N) → ℕ
  workers_of None = 0
  workers_of (Some c) = size c

  -- the rank and the desk that a worker has
  abbrev pub given : Busy S J A N → Member
  given b = b.errand.value
