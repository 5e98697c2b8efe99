use Rattle.std.proofs.Common.{◌∙◌, sym}
use Rattle.cb_letters.proofs.Marks.{ends_closed-append, NothingAfterClose-append}
use Rattle.cb_rings.proofs.ring_ends.Poster.post.Goals as goal

pub invariant_of-self-2-clause-marked : goal.invariant_of-self-2-clause-marked
invariant_of-self-2-clause-marked g c = rw (c.in_default.ensures.ok.0, ends_closed-append) c.is_close-closes.ensures

pub invariant_of-self-2-clause-ended : goal.invariant_of-self-2-clause-ended
invariant_of-self-2-clause-ended g c =
    rw c.in_default.ensures.ok.0 (NothingAfterClose-append _ _ c.args.self.now.ended (sym c.args.self.now.marked ∙ c.if-self.false))
