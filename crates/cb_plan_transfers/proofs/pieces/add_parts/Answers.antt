use Rattle.std.proofs.Common.{◌+◌}
use Rattle.cb_plan_operations.specs.VectorPlans.{works}
use Rattle.cb_plan_operations.proofs.Loops.{next_grew}
use Rattle.cb_plan_transfers.specs.Rounds.{sums}
use Rattle.cb_plan_transfers.proofs.pieces.add_parts.Goals as goal

pub loop-rank-preserved : goal.loop-rank-preserved
loop-rank-preserved c =
    let q = c.args.grid.now.side in
    let r = c.loop-rank.rank in
    let side = c.side-side.ensures.value in
    next_grew (λ r. works r (sums (1 + q) q)) r c.args.plan.now c.loop-rank.plan _ (λ z. works r (sums (1 + side z) (side z))) _ c.loop-rank.invariant c.in_ok-add_up.ensures.acts
