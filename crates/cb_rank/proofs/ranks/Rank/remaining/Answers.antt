use Rattle.std.proofs.Common.{arith}
use Rattle.cb_rank.proofs.RankAfterHalf.{few_halves}
use Rattle.cb_rank.proofs.ranks.Rank.remaining.Goals as goal

pub returns-clause-few : goal.returns-clause-few
returns-clause-few g c =
    let few = few_halves _ c.self.invariant in
    let size = c.len.ensures in
    omega arith
