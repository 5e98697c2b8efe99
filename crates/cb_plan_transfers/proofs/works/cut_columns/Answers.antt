use Rattle.std.proofs.Common.{◌≡◌, ℕ, ◌+◌, List, [], ◌∷◌, sym, ap, subst, ◌∙◌, arith}
use Rattle.std.specs.List.{range_with_len, flat_map}
use Rattle.cb_matrix.specs.Sparse.{Extent}
use Rattle.cb_plan.specs.declared.acts.Act.{Act}
use Rattle.cb_plan.specs.declared.acts.Op.TheVariants as op_is
use Rattle.cb_grid.specs.Parts.{part_start}
use Rattle.cb_plan_parts.specs.Growth.{Grew}
use Rattle.cb_plan_operations.specs.VectorPlans.{works}
use Rattle.cb_plan_operations.proofs.Loops.{next_grew, works_each}
use Rattle.cb_plan_transfers.specs.Rounds.{column_cut}
use Rattle.cb_plan_transfers.proofs.works.cut_columns.Goals as goal

-- the act, by what is known of the range
same : (q r k : ℕ) (block : Extent) (cols : ℕ × ℕ) (height width : ℕ) → height ≡ block.rows → width ≡ block.cols → cols.0 ≡ part_start q width k → cols.1 ≡ part_start q width (k + 1) →
    works r (op_is.Cut 0 (0, height) cols (1 + k) ∷ []) ≡ works r (column_cut q block k ∷ [])
same q r k block cols height width is_height is_width left right =
    let a : cols.0 ≡ part_start q block.cols k = left ∙ ap (λ n. part_start q n k) is_width in
    let b : cols.1 ≡ part_start q block.cols (k + 1) = right ∙ ap (λ n. part_start q n (k + 1)) is_width in
    λ z. works r (op_is.Cut 0 (0, is_height z) (a z, b z) (1 + k) ∷ [])

pub loop-k-preserved : goal.loop-k-preserved
loop-k-preserved c =
    let q = c.args.grid.now.side in
    let r = c.args.rank in
    let is = same q r c.loop-k.k c.args.block _ _ _ c.rows.ensures.value c.cols.ensures.value c.range.ensures.start c.range.ensures.end in
    next_grew (λ k. works r (column_cut q c.args.block k ∷ [])) c.loop-k.k c.args.plan.now c.loop-k.plan _ is _ c.loop-k.invariant c.in_ok-work.ensures.acts

pub returns : goal.returns
returns c =
    let q = c.args.grid.now.side in
    let r = c.args.rank in
    let f = column_cut q c.args.block in
    let last : c.loop-k.k ≡ q = (let l = c.loop-k-test.false in let m = c.side-k-end.ensures.value in omega arith) in
    record {
      acts = subst (λ (xs : List Act). Grew xs c.args.plan.now c.loop-k.plan) (ap (λ n. flat_map (λ k. works r (f k ∷ [])) (range_with_len 0 n)) last ∙ sym (works_each r f (range_with_len 0 q))) c.loop-k.invariant;
    }
