use Rattle.std.proofs.Common.{arith}
use Rattle.cb_plan_summa.specs.Summa.{broadcasts}
use Rattle.cb_plan_parts.proofs.LoopGrowth.{within_next, grew_next}
use Rattle.cb_plan_summa.proofs.products.broadcast_all.Goals as goal

pub broadcast_blocks-requires-clause-limit : goal.broadcast_blocks-requires-clause-limit
broadcast_blocks-requires-clause-limit c =
    let l = c.loop-k-test.true in
    let m = c.side-k-end.ensures.value in
    within_next (broadcasts c.args.grid.now.side) c.loop-k.k c.args.plan.now c.loop-k.plan c.args.grid.now.side (omega arith) c.requires c.loop-k.invariant

pub loop-k-preserved : goal.loop-k-preserved
loop-k-preserved c = grew_next (broadcasts c.args.grid.now.side) c.loop-k.k c.args.plan.now c.loop-k.plan _ c.loop-k.invariant c.in_ok-broadcast_blocks.ensures.acts
