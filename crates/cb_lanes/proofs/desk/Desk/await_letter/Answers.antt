use Rattle.std.proofs.Common.{◌≡◌, Some, slice_index_or, rules}
use Rattle.std.proofs.Math.Seq.{map-set_same}
use Rattle.cb_rings.specs.Ends.{incoming_ring}
use Rattle.cb_lanes.proofs.desk.Desk.await_letter.Goals as goal

pub returns-clause-identity : goal.returns-clause-identity
returns-clause-identity g c =
    let same : incoming_ring (Some c.await_letter.new.self) ≡ incoming_ring (slice_index_or c.args.self.now.incoming.items c.args.from c.index_mut.result.now) = search rules in
    let e = map-set_same incoming_ring c.args.self.now.incoming.items c.args.from (Some c.await_letter.new.self) c.index_mut.result.now same in cc
