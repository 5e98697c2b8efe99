-- The one rank is no stranger in the mailbox of the other.
use Rattle.cb_rank_world.proofs.Boxes.{known}
use Rattle.cb_rank_world.proofs.ends.Ends.has_room.Goals as goal

pub room-requires : goal.room-requires
room-requires g c =
    let from = rw (← c.self.view_is) at c.requires.from in
    let to = rw (← c.self.view_is) at c.requires.to in
    (known c.self.inside.me c.self.inside.boxes.items c.args.from c.args.to c.index.result.now c.self.invariant from to c.requires.apart c.index.ensures).0
