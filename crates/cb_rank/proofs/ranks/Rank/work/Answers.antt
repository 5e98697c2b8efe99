use Rattle.std.proofs.Common.{Some, sym, ◌∙◌, ap}
use Rattle.cb_plan.specs.declared.acts.Half.TheVariants as half_is
use Rattle.cb_rank.proofs.NextAct.{finds}
use Rattle.cb_rank.proofs.RankAfterHalf.{works_of}
use Rattle.cb_rank.proofs.ranks.Rank.work.Goals as goal

pub operate-refused-requires-clause-slots : goal.operate-refused-requires-clause-slots
operate-refused-requires-clause-slots g c = (finds c.args.self.now (half_is.Work c.in-Some-Work.op) c.next.ensures.rank (sym c.next.ensures.value ∙ c.in-Some-Work.is ∙ ap Some c.in-Some-Work.field-0-is)).0

pub operate-refused-requires-clause-shapes : goal.operate-refused-requires-clause-shapes
operate-refused-requires-clause-shapes g c =
    let next = rw (← c.self.view_is) at (sym c.next.ensures.value ∙ c.in-Some-Work.is ∙ ap Some c.in-Some-Work.field-0-is) in
    let f = finds _ (half_is.Work c.in-Some-Work.op) c.self.invariant next in
    (_, f.1, f.2, c.self.invariant.shapes)

pub invariant_of-self : goal.invariant_of-self
invariant_of-self g c =
    let next = rw (← c.self.view_is) at (sym c.next.ensures.value ∙ c.in-Some-Work.is ∙ ap Some c.in-Some-Work.field-0-is) in
    let done = c.operate-refused.ensures in
    rw c.from.ensures (works_of g.S.Semiring.arithmetic _ c.in-Some-Work.op c.operate-refused.new.store c.operate-refused.result c.self.invariant next done.done done.lost done.cause).1

pub returns-clause-half : goal.returns-clause-half
returns-clause-half g c =
    let next = rw (← c.self.view_is) at (sym c.next.ensures.value ∙ c.in-Some-Work.is ∙ ap Some c.in-Some-Work.field-0-is) in
    let done = c.operate-refused.ensures in
    rw (← c.self.view_is, c.from.ensures) (works_of g.S.Semiring.arithmetic _ c.in-Some-Work.op c.operate-refused.new.store c.operate-refused.result c.self.invariant next done.done done.lost done.cause).0
