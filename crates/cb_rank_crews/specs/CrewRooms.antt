-- Room for what a crew's workers get, and for what comes back.
use Rattle.std.specs.Prelude.{ℕ}
use Rattle.cb_semirings.specs.declared.Semiring.{Ghosts as SemiringGhosts}
use Rattle.cb_rank_runs.specs.Rooms.{HasRoomFor}
use Rattle.cb_rank_crews.specs.declared.messages.Naming.{Ghosts as NamingGhosts}
use Rattle.cb_rank_crews.specs.declared.rooms.Room.{Room}

module _ {S J : Type 0} {A : SemiringGhosts S} {N : NamingGhosts J} where
  -- the lists are empty, with room for this many ranks
  pub record IsRoomFor (n : ℕ) (room : Room S J A N) : Type 0 where
    pub busy : HasRoomFor n room.busy
    pub back : HasRoomFor n room.back
    pub rested : HasRoomFor n room.rested
    pub members : HasRoomFor n room.members
