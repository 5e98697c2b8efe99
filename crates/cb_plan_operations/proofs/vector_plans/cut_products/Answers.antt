use Rattle.std.proofs.Common.{◌≡◌, ℕ, ◌/◌, ap, ◌∙◌, arith}
use Rattle.cb_grid.specs.Parts.{part_length}
use Rattle.cb_matrix.specs.Sparse.{Extent}
use Rattle.cb_plan_operations.specs.VectorPlans.{works, cut_ops, cuts_at}
use Rattle.cb_plan_operations.proofs.Loops.{next_within, next_grew}
use Rattle.cb_plan_operations.proofs.vector_plans.cut_products.Goals as goal

-- the acts, by what is known of the rows
same : (q r : ℕ) (a : Extent) (rows height side row : ℕ) → rows ≡ a.rows → side ≡ q → row ≡ r → height ≡ part_length q rows (row / side) → works r (cut_ops q height) ≡ works r (cuts_at q a r)
same q r a rows height side row e f g h =
    ap (λ n. works r (cut_ops q n)) (h ∙ ap (λ n. part_length q n (row / side)) e ∙ ap (λ n. part_length q a.rows (row / n)) f ∙ ap (λ n. part_length q a.rows (n / q)) g)

pub cut_product-requires : goal.cut_product-requires
cut_product-requires c =
    let q = c.args.grid.now.side in
    let is = same q c.loop-rank.rank c.args.a _ _ _ _ c.rows.ensures.value c.side.ensures.value c.from.ensures c.part_length-rows.ensures.value in
    let l = c.loop-rank-test.true in
    let m = c.ranks-rank-end.ensures.value in
    next_within (λ r. works r (cuts_at q c.args.a r)) c.loop-rank.rank c.args.plan.now c.loop-rank.plan _ is _ (omega arith) c.requires c.loop-rank.invariant

pub loop-rank-preserved : goal.loop-rank-preserved
loop-rank-preserved c =
    let q = c.args.grid.now.side in
    let is = same q c.loop-rank.rank c.args.a _ _ _ _ c.rows.ensures.value c.side.ensures.value c.from.ensures c.part_length-rows.ensures.value in
    next_grew (λ r. works r (cuts_at q c.args.a r)) c.loop-rank.rank c.args.plan.now c.loop-rank.plan _ is _ c.loop-rank.invariant c.in_ok-cut_product.ensures.acts
