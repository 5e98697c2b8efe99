-- The rank is no stranger in the mailbox of another.
use Rattle.std.proofs.Common.{◌≡◌, false, sym, ◌∙◌}
use Rattle.cb_rank_world.specs.Ends.{EndsView, is_out}
use Rattle.cb_rank_world.specs.EndLaws.{known_there}
use Rattle.cb_rank_world.proofs.ends.EndsPorts.room.Goals as goal

pub room-requires : goal.room-requires
room-requires g c =
    let ends : EndsView _ = record { me = c.self.inside.me; boxes = c.self.inside.boxes.items } in
    let out : is_out ends c.args.to ≡ false = rw (← c.self.view_is) at (sym c.is_out.ensures ∙ c.if-is_out.false) in
    (known_there ends c.args.to c.index.result.now c.self.invariant out c.index.ensures).0
