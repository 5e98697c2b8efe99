use Rattle.std.proofs.Common.{arith}
use Rattle.cb_plan_operations.specs.VectorPlans.{part_broadcasts}
use Rattle.cb_plan_parts.proofs.LoopGrowth.{within_next, grew_next}
use Rattle.cb_plan_operations.proofs.vector_plans.broadcast_pieces.Goals as goal

pub broadcast_part-requires-clause-limit : goal.broadcast_part-requires-clause-limit
broadcast_part-requires-clause-limit c =
    let l = c.loop-j-test.true in
    let m = c.side-j-end.ensures.value in
    within_next (part_broadcasts c.args.grid.now.side) c.loop-j.j c.args.plan.now c.loop-j.plan c.args.grid.now.side (omega arith) c.requires c.loop-j.invariant

pub loop-j-preserved : goal.loop-j-preserved
loop-j-preserved c = grew_next (part_broadcasts c.args.grid.now.side) c.loop-j.j c.args.plan.now c.loop-j.plan _ c.loop-j.invariant c.in_ok-broadcast_part.ensures.acts
