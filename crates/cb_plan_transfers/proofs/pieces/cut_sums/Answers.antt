use Rattle.cb_plan_parts.proofs.LoopGrowth.{grew_next}
use Rattle.cb_plan_operations.specs.VectorPlans.{works}
use Rattle.cb_plan_transfers.specs.Pieces.{sum_cuts}
use Rattle.cb_plan_transfers.proofs.pieces.cut_sums.Goals as goal

pub loop-rank-preserved : goal.loop-rank-preserved
loop-rank-preserved c = grew_next (λ r. works r (sum_cuts c.args.grid.now.side c.args.shape r)) c.loop-rank.rank c.args.plan.now c.loop-rank.plan _ c.loop-rank.invariant c.in_ok-cut_sum.ensures.acts
