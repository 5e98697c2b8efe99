use Rattle.std.proofs.Common.{ap}
use Rattle.cb_matrix.specs.Sparse.{Extent}
use Rattle.cb_plan_operations.specs.VectorPlans.{works}
use Rattle.cb_plan_operations.proofs.Loops.{next_grew}
use Rattle.cb_plan_transfers.specs.Rounds.{given_away}
use Rattle.cb_plan_transfers.specs.Panels.{cuts_at}
use Rattle.cb_plan_transfers.proofs.panels.cut_blocks.Goals as goal

pub loop-rank-preserved : goal.loop-rank-preserved
loop-rank-preserved c =
    let q = c.args.grid.now.side in
    let r = c.loop-rank.rank in
    let is = ap (λ (block : Extent). works r (given_away q block)) c.block_shape-block.ensures in
    next_grew (λ r. works r (cuts_at q c.args.shape r)) r c.args.plan.now c.loop-rank.plan _ is _ c.loop-rank.invariant c.in_ok-give_away.ensures.acts
