use Rattle.std.proofs.Common.{sym, ◌∙◌}
use Rattle.cb_rank.proofs.RankAfterHalf.{slot_exists, accepts_on}
use Rattle.cb_rank.proofs.ranks.Rank.accept.Goals as goal

pub fill-requires-clause-inside : goal.fill-requires-clause-inside
fill-requires-clause-inside g c = slot_exists c.args.self.now c.in-Some.half c.next.ensures.rank (sym c.next.ensures.value ∙ c.in-Some.is)

pub invariant_of-self : goal.invariant_of-self
invariant_of-self g c =
    let next = rw (← c.self.view_is) at (sym c.next.ensures.value ∙ c.in-Some.is) in
    rw c.fill.ensures (accepts_on _ c.in-Some.half c.args.arrival c.self.invariant next (c.is_awaited.ensures.0 c.if-not-is_awaited.false))
