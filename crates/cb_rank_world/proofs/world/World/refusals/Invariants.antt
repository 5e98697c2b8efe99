use Rattle.std.proofs.Common.{◌≡◌, take, sum_by}
use Rattle.cb_rank_world.proofs.world.World.refusals.Given as goal

abbrev pub invariant-loop-rank : goal.invariant-loop-rank
invariant-loop-rank g l = l.refusals ≡ sum_by (λ x. x.refusals) (take l.rank-index l.self.ranks)
