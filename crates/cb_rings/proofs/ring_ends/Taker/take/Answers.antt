use Rattle.cb_letters.proofs.Marks.{ends_closed-append}
use Rattle.cb_rings.proofs.Numbers.{AreNumbered-append}
use Rattle.cb_rings.proofs.ring_ends.Taker.take.Goals as goal

pub invariant_of-self-2-clause-marked : goal.invariant_of-self-2-clause-marked
invariant_of-self-2-clause-marked g c = rw (c.in-Ok.ensures.ok.0, ends_closed-append) c.is_close-self.ensures

pub invariant_of-self-2-clause-numbered : goal.invariant_of-self-2-clause-numbered
invariant_of-self-2-clause-numbered g c = rw c.in-Ok.ensures.ok.0 (AreNumbered-append _ _ c.args.self.now.numbered c.in-Ok.ensures.ok.2)
