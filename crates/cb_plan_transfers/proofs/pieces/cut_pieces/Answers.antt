use Rattle.cb_plan_parts.proofs.LoopGrowth.{grew_next}
use Rattle.cb_plan_operations.specs.VectorPlans.{works}
use Rattle.cb_plan_transfers.specs.Rounds.{given_away}
use Rattle.cb_plan_transfers.proofs.pieces.cut_pieces.Goals as goal

pub loop-rank-preserved : goal.loop-rank-preserved
loop-rank-preserved c = grew_next (λ r. works r (given_away c.args.grid.now.side c.args.shape)) c.loop-rank.rank c.args.plan.now c.loop-rank.plan _ c.loop-rank.invariant c.in_ok-give_away.ensures.acts
