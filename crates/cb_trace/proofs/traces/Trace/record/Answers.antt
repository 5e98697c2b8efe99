use Rattle.std.proofs.Common.{◌≡◌, ◌<◌, ◌≤◌, length, vec_capacity, ap, arith}
use Rattle.std.proofs.lemmas.List.{length-map}
use Rattle.cb_trace.specs.Traces.{event_of}
use Rattle.cb_trace.proofs.Next.{few_posted, few_taken, IsWithin-legal}
use Rattle.cb_trace.proofs.Recorded.{IsNext-at, recorded}
use Rattle.cb_trace.proofs.traces.Trace.record.Goals as goal

pub record-requires-clause-posted : goal.record-requires-clause-posted
record-requires-clause-posted c =
    let next = IsNext-at _ _ _ _ _ _ c.args.event _ _ _ c.self.view_is c.self.invariant.3 c.envelope.ensures (c.may_record.ensures.0 c.if-not-may_record.false) c.lane_of-lane.ensures c.index_mut.ensures.value in
    let few = few_posted _ _ _ _ _ next.ends in
    let size = length-map c.self.inside.events.items event_of in
    let shown = ap (λ t. length t.events) c.self.view_is in
    omega arith

pub record-requires-clause-taken : goal.record-requires-clause-taken
record-requires-clause-taken c =
    let next = IsNext-at _ _ _ _ _ _ c.args.event _ _ _ c.self.view_is c.self.invariant.3 c.envelope.ensures (c.may_record.ensures.0 c.if-not-may_record.false) c.lane_of-lane.ensures c.index_mut.ensures.value in
    let few = few_taken _ _ _ _ _ next.ends in
    let size = length-map c.self.inside.events.items event_of in
    let shown = ap (λ t. length t.events) c.self.view_is in
    omega arith

pub record-requires-clause-within : goal.record-requires-clause-within
record-requires-clause-within c =
    let next = IsNext-at _ _ _ _ _ _ c.args.event _ _ _ c.self.view_is c.self.invariant.3 c.envelope.ensures (c.may_record.ensures.0 c.if-not-may_record.false) c.lane_of-lane.ensures c.index_mut.ensures.value in
    let size = length-map c.self.inside.events.items event_of in
    let places = ap length c.deref_mut.ensures.value in
    IsWithin-legal _ _ _ _ _ next.ends next.follows (omega arith)

pub invariant_of-self : goal.invariant_of-self
invariant_of-self c =
    let next = IsNext-at _ _ _ _ _ _ c.args.event _ _ _ c.self.view_is c.self.invariant.3 c.envelope.ensures (c.may_record.ensures.0 c.if-not-may_record.false) c.lane_of-lane.ensures c.index_mut.ensures.value in
    let shown = ap (λ t. length t.events) c.self.view_is in
    let here : c.len-place.result ≡ length c.self.inside.events.items = omega arith in
    let fits : length c.self.inside.events.items < c.self.inside.room = omega arith in
    let wrote = rw c.deref_mut.ensures.value at c.record.ensures.next in
    let kept = rw c.deref_mut.ensures.value at c.record.ensures.lane in
    let room_kept : c.self.inside.room ≤ vec_capacity c.push_reserved.new.self = omega arith in
    let all = recorded _ _ _ _ _ _ _ _ _ _ _ _ _ c.self.invariant.0 c.self.invariant.2 c.self.invariant.3 next here fits c.push_reserved.ensures.items wrote kept (omega (arith, c.self.inside.next.ok.0)) in
    (all.0, room_kept, all.1, all.2)
