-- Room for a crew's threads.
use Rattle.std.specs.Prelude.{ℕ}
use Rattle.std.specs.declared.vec.Vec.{Vec}
use Rattle.std.specs.declared.alloc.Global.{Global}
use Rattle.cb_rank_runs.specs.Rooms.{HasRoomFor}
use Rattle.cb_rank_threads.specs.declared.rooms.Room.{Room}

-- these three lists are empty, and have room for this many
abbrev pub HaveRoomFor : {X Y Z : Type 0} → ℕ → Vec X Global → Vec Y Global → Vec Z Global → Type 0
HaveRoomFor n x y z = HasRoomFor n x × HasRoomFor n y × HasRoomFor n z

module _ {S T : Type 0} where
  -- the lists are empty, with room for this many ranks
  pub record IsRoomFor (n : ℕ) (room : Room S T) : Type 0 where
    pub threads : HasRoomFor n room.threads
    pub members : HasRoomFor n room.members
    pub told : HasRoomFor n room.told
