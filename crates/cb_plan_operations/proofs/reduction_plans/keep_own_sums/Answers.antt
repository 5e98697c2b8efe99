use Rattle.std.proofs.Common.{◌≡◌, ℕ, ◌+◌, ◌/◌, ◌%◌, ap, ◌∙◌, arith}
use Rattle.cb_matrix.specs.Sparse.{Extent}
use Rattle.cb_grid.specs.Parts.{part_start, part_length}
use Rattle.cb_plan_operations.specs.VectorPlans.{works}
use Rattle.cb_plan_operations.specs.ReductionPlans.{own_ops, own_sums}
use Rattle.cb_plan_operations.proofs.Loops.{next_within, next_grew}
use Rattle.cb_plan_operations.proofs.reduction_plans.keep_own_sums.Goals as goal

-- the acts, by what is known of the rows and of the width
same : (q r : ℕ) (a : Extent) (rows : ℕ × ℕ) (width number side cols : ℕ) → number ≡ r → side ≡ q → cols ≡ a.cols → rows.0 ≡ part_start q 1 (number / side) → rows.1 ≡ part_start q 1 (number / side + 1) → width ≡ part_length q cols (number % side) →
    works r (own_ops q rows width) ≡ works r (own_sums q a r)
same q r a rows width number side cols is_number is_side is_cols first last wide =
    let i : number / side ≡ r / q = λ z. is_number z / is_side z in
    let e : rows.0 ≡ part_start q 1 (r / q) = first ∙ ap (part_start q 1) i in
    let f : rows.1 ≡ part_start q 1 (r / q + 1) = last ∙ ap (λ x. part_start q 1 (x + 1)) i in
    let g : width ≡ part_length q a.cols (r % q) = wide ∙ (λ z. part_length q (is_cols z) (is_number z % is_side z)) in
    λ z. works r (own_ops q (e z, f z) (g z))

pub keep_own-requires : goal.keep_own-requires
keep_own-requires c =
    let q = c.args.grid.now.side in
    let is = same q c.loop-rank.rank c.args.a _ _ _ _ _ c.from-number.ensures c.side-side.ensures.value c.cols.ensures.value c.range-rows.ensures.start c.range-rows.ensures.end c.part_length-width.ensures.value in
    let l = c.loop-rank-test.true in
    let m = c.ranks-rank-end.ensures.value in
    next_within (λ r. works r (own_sums q c.args.a r)) c.loop-rank.rank c.args.plan.now c.loop-rank.plan _ is _ (omega arith) c.requires c.loop-rank.invariant

pub loop-rank-preserved : goal.loop-rank-preserved
loop-rank-preserved c =
    let q = c.args.grid.now.side in
    let is = same q c.loop-rank.rank c.args.a _ _ _ _ _ c.from-number.ensures c.side-side.ensures.value c.cols.ensures.value c.range-rows.ensures.start c.range-rows.ensures.end c.part_length-width.ensures.value in
    next_grew (λ r. works r (own_sums q c.args.a r)) c.loop-rank.rank c.args.plan.now c.loop-rank.plan _ is _ c.loop-rank.invariant c.in_ok-keep_own.ensures.acts
