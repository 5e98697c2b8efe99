use Rattle.std.proofs.Common.{arith}
use Rattle.cb_lanes.proofs.Pairs.{settled_lane, same_lists, at_places, lent_whole}
use Rattle.cb_lanes.proofs.settling.settle.Goals as goal

pub returns-clause-ranks : goal.returns-clause-ranks
returns-clause-ranks g c =
    let same = rw c.deref_mut.ensures.value at c.settle_all.ensures.same in
    rw (lent_whole c.args.desks.items c.settle_all.new.desks c.args.desks.len (omega arith) same.count) same.count

pub returns-clause-capacities : goal.returns-clause-capacities
returns-clause-capacities g c from to =
    let same = rw c.deref_mut.ensures.value at c.settle_all.ensures.same in
    rw (lent_whole c.args.desks.items c.settle_all.new.desks c.args.desks.len (omega arith) same.count) (same_lists c.args.desks.items c.settle_all.new.desks same from to).2

pub returns-clause-posted : goal.returns-clause-posted
returns-clause-posted g c from to =
    let same = rw c.deref_mut.ensures.value at c.settle_all.ensures.same in
    rw (lent_whole c.args.desks.items c.settle_all.new.desks c.args.desks.len (omega arith) same.count) (same_lists c.args.desks.items c.settle_all.new.desks same from to).0

pub returns-clause-taken : goal.returns-clause-taken
returns-clause-taken g c from to =
    let same = rw c.deref_mut.ensures.value at c.settle_all.ensures.same in
    rw (lent_whole c.args.desks.items c.settle_all.new.desks c.args.desks.len (omega arith) same.count) (same_lists c.args.desks.items c.settle_all.new.desks same from to).1

pub returns-clause-settled : goal.returns-clause-settled
returns-clause-settled g c = settled_lane c.args.desks.items (rw c.deref_mut.ensures.value at c.settle_all.ensures.settled)

pub invariant_of-result : goal.invariant_of-result
invariant_of-result g c =
    let same = rw c.deref_mut.ensures.value at c.settle_all.ensures.same in
    let at = at_places c.args.desks.items c.settle_all.new.desks c.requires same in
    rw (lent_whole c.args.desks.items c.settle_all.new.desks c.args.desks.len (omega arith) same.count)
    (record { places = (λ k a below. (at k a below).0); ranks = (λ k a below. (at k a below).1) })
