use Rattle.std.proofs.Common.{rules, ◌≡◌, ◌↔◌, true, arith}
use Rattle.cb_trace.specs.declared.events.TraceEvent.TheVariants.{Posted, Closed}
use Rattle.cb_trace.proofs.Next.{IsJudged-at, oldest_within, post_judged, close_judged, close_refused, take_judged, take_refused, end_judged, end_refused}
use Rattle.cb_trace.proofs.traces.Trace.may_record.Goals as goal

pub index-requires : goal.index-requires
index-requires c =
    let judged = IsJudged-at _ _ _ _ _ _ c.args.event.now _ _ _ c.self.view_is c.self.invariant.3 c.envelope-envelope.ensures c.if-from-self.false c.if-to-self.false c.if-from-to.false c.lane_of.ensures c.index-lane.ensures in
    let within = rw (← c.self.view_is) at (oldest_within _ _ _ _ _ judged c.if-lane.true) in
    omega (arith, c.self.inside.events.ok.0)

pub index-requires-then-lane-2 : goal.index-requires-then-lane-2
index-requires-then-lane-2 c =
    let judged = IsJudged-at _ _ _ _ _ _ c.args.event.now _ _ _ c.self.view_is c.self.invariant.3 c.envelope-envelope.ensures c.if-from-self.false c.if-to-self.false c.if-from-to.false c.lane_of.ensures c.index-lane.ensures in
    let within = rw (← c.self.view_is) at (oldest_within _ _ _ _ _ judged c.if-lane-2.true) in
    omega (arith, c.self.inside.events.ok.0)

pub returns-in-Posted : goal.returns-in-Posted
returns-in-Posted c =
    post_judged _ _ _ _ _ _ _
    (IsJudged-at _ _ _ _ _ _ _ _ _ _ c.self.view_is c.self.invariant.3 c.envelope-envelope.ensures c.if-from-self.false c.if-to-self.false c.if-from-to.false c.lane_of.ensures c.index-lane.ensures)
    c.in-Posted.is c.may_post.ensures

pub returns-then-may_post : goal.returns-then-may_post
returns-then-may_post c =
    close_judged _ _ _ _ _ _
    (IsJudged-at _ _ _ _ _ _ _ _ _ _ c.self.view_is c.self.invariant.3 c.envelope-envelope.ensures c.if-from-self.false c.if-to-self.false c.if-from-to.false c.lane_of.ensures c.index-lane.ensures)
    c.in-Closed.is (c.may_post-in-Closed.ensures.0 c.if-may_post.true)

pub returns-else-may_post : goal.returns-else-may_post
returns-else-may_post c =
    close_refused _ _ _ _ _ _ _
    (IsJudged-at _ _ _ _ _ _ _ _ _ _ c.self.view_is c.self.invariant.3 c.envelope-envelope.ensures c.if-from-self.false c.if-to-self.false c.if-from-to.false c.lane_of.ensures c.index-lane.ensures)
    c.in-Closed.is c.may_post-in-Closed.ensures c.if-may_post.false

pub returns-then-lane : goal.returns-then-lane
returns-then-lane c =
    let test : (c.eq.result ≡ true) ↔ (c.index.result.now ≡ Posted c.envelope-envelope.result) = search rules in
    take_judged _ _ _ _ _ _ _ _
    (IsJudged-at _ _ _ _ _ _ _ _ _ _ c.self.view_is c.self.invariant.3 c.envelope-envelope.ensures c.if-from-self.false c.if-to-self.false c.if-from-to.false c.lane_of.ensures c.index-lane.ensures)
    c.in-Took.is c.if-lane.true (rw (← c.self.view_is) c.index.ensures) test

pub returns-else-lane : goal.returns-else-lane
returns-else-lane c =
    take_refused _ _ _ _ _ _
    (IsJudged-at _ _ _ _ _ _ _ _ _ _ c.self.view_is c.self.invariant.3 c.envelope-envelope.ensures c.if-from-self.false c.if-to-self.false c.if-from-to.false c.lane_of.ensures c.index-lane.ensures)
    c.in-Took.is c.if-lane.false

pub returns-then-lane-2 : goal.returns-then-lane-2
returns-then-lane-2 c =
    let test : (c.eq-then-lane-2.result ≡ true) ↔ (c.index-then-lane-2.result.now ≡ Closed c.envelope-envelope.result) = search rules in
    end_judged _ _ _ _ _ _ _ _
    (IsJudged-at _ _ _ _ _ _ _ _ _ _ c.self.view_is c.self.invariant.3 c.envelope-envelope.ensures c.if-from-self.false c.if-to-self.false c.if-from-to.false c.lane_of.ensures c.index-lane.ensures)
    c.in-Ended.is c.if-lane-2.true (rw (← c.self.view_is) c.index-then-lane-2.ensures) test

pub returns-else-lane-2 : goal.returns-else-lane-2
returns-else-lane-2 c =
    end_refused _ _ _ _ _ _
    (IsJudged-at _ _ _ _ _ _ _ _ _ _ c.self.view_is c.self.invariant.3 c.envelope-envelope.ensures c.if-from-self.false c.if-to-self.false c.if-from-to.false c.lane_of.ensures c.index-lane.ensures)
    c.in-Ended.is c.if-lane-2.false
