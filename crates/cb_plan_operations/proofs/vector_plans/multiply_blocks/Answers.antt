use Rattle.std.proofs.Common.{ap, arith}
use Rattle.cb_matrix.specs.Sparse.{Extent}
use Rattle.cb_plan_operations.specs.VectorPlans.{works, product_ops, products_at}
use Rattle.cb_plan_operations.proofs.Loops.{next_within, next_grew}
use Rattle.cb_plan_operations.proofs.vector_plans.multiply_blocks.Goals as goal

pub multiply_block-requires : goal.multiply_block-requires
multiply_block-requires c =
    let q = c.args.grid.now.side in
    let is = ap (λ (part : Extent). works c.loop-rank.rank (product_ops q part)) c.part_of_vector-part.ensures in
    let l = c.loop-rank-test.true in
    let m = c.ranks-rank-end.ensures.value in
    next_within (λ r. works r (products_at q c.args.a r)) c.loop-rank.rank c.args.plan.now c.loop-rank.plan _ is _ (omega arith) c.requires c.loop-rank.invariant

pub loop-rank-preserved : goal.loop-rank-preserved
loop-rank-preserved c =
    let q = c.args.grid.now.side in
    let is = ap (λ (part : Extent). works c.loop-rank.rank (product_ops q part)) c.part_of_vector-part.ensures in
    next_grew (λ r. works r (products_at q c.args.a r)) c.loop-rank.rank c.args.plan.now c.loop-rank.plan _ is _ c.loop-rank.invariant c.in_ok-multiply_block.ensures.acts
