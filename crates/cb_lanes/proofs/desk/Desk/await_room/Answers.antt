use Rattle.std.proofs.Common.{◌≡◌, Some, slice_index_or, rules}
use Rattle.std.proofs.Math.Seq.{map-set_same}
use Rattle.cb_rings.specs.Ends.{outgoing_ring}
use Rattle.cb_lanes.proofs.desk.Desk.await_room.Goals as goal

pub returns-clause-identity : goal.returns-clause-identity
returns-clause-identity g c =
    let same : outgoing_ring (Some c.await_room.new.self) ≡ outgoing_ring (slice_index_or c.args.self.now.outgoing.items c.args.to c.index_mut.result.now) = search rules in
    let e = map-set_same outgoing_ring c.args.self.now.outgoing.items c.args.to (Some c.await_room.new.self) c.index_mut.result.now same in cc
