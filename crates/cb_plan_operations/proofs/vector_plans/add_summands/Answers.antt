use Rattle.std.proofs.Common.{arith}
use Rattle.cb_plan_operations.specs.VectorPlans.{works, sum_ops}
use Rattle.cb_plan_parts.proofs.LoopGrowth.{within_next, grew_next}
use Rattle.cb_plan_operations.proofs.vector_plans.add_summands.Goals as goal

pub add_up-requires : goal.add_up-requires
add_up-requires c =
    let q = c.args.grid.now.side in
    let l = c.loop-rank-test.true in
    let m = c.ranks-rank-end.ensures.value in
    within_next (λ r. works r (sum_ops q)) c.loop-rank.rank c.args.plan.now c.loop-rank.plan _ (omega arith) c.requires c.loop-rank.invariant

pub loop-rank-preserved : goal.loop-rank-preserved
loop-rank-preserved c = grew_next (λ r. works r (sum_ops c.args.grid.now.side)) c.loop-rank.rank c.args.plan.now c.loop-rank.plan _ c.loop-rank.invariant c.in_ok-add_up.ensures.acts
