use Rattle.std.proofs.Common.{◌≡◌, ◌≤◌, ◌*◌, ◌-◌, take, length, sum_by}
use Rattle.cb_rank_world.proofs.world.World.remaining.Given as goal

abbrev pub invariant-loop-rank : goal.invariant-loop-rank
invariant-loop-rank g l = (l.halves ≡ sum_by (λ x. length x.program - x.done) (take l.rank-index l.self.ranks)) × (l.halves ≤ l.rank-index * 4294967295)
