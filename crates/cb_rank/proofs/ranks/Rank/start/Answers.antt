use Rattle.cb_rank.proofs.RankAfterHalf.{starts_as}
use Rattle.cb_rank.proofs.ranks.Rank.start.Goals as goal

pub invariant_of-result : goal.invariant_of-result
invariant_of-result g c = rw (c.of.ensures, c.in-Ok.ensures.program) (starts_as c.args.plan.now c.args.rank c.args.store c.in-Ok.ensures.checked c.requires.rank c.requires.fits)
