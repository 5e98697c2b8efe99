use Rattle.std.proofs.Common.{◌≡◌, ℕ, ◌+◌, ◌%◌, List, [], ◌∷◌, sym, ap, subst, ◌∙◌, arith}
use Rattle.std.specs.List.{range_with_len, flat_map}
use Rattle.cb_matrix.specs.Sparse.{Extent}
use Rattle.cb_plan.specs.declared.acts.Act.{Act}
use Rattle.cb_plan.specs.declared.acts.Op.TheVariants as op_is
use Rattle.cb_grid.specs.Parts.{part_start, part_length}
use Rattle.cb_plan_parts.specs.Growth.{Grew}
use Rattle.cb_plan_operations.specs.VectorPlans.{works}
use Rattle.cb_plan_operations.proofs.Loops.{next_grew, works_each}
use Rattle.cb_plan_transfers.specs.Pieces.{sum_cut}
use Rattle.cb_plan_transfers.proofs.pieces.cut_sum.Goals as goal

-- the act, by what is known of the ranges
same : (q r k : ℕ) (shape : Extent) (rows : ℕ × ℕ) (side height width : ℕ) → side ≡ q → height ≡ shape.rows → width ≡ part_length q shape.cols (r % q) →
    rows.0 ≡ part_start q height k → rows.1 ≡ part_start q height (k + 1) → works r (op_is.Cut (1 + side) rows (0, width) (1 + k) ∷ []) ≡ works r (sum_cut q shape r k ∷ [])
same q r k shape rows side height width is_side is_height is_width top bottom =
    let a : rows.0 ≡ part_start q shape.rows k = top ∙ ap (λ n. part_start q n k) is_height in
    let b : rows.1 ≡ part_start q shape.rows (k + 1) = bottom ∙ ap (λ n. part_start q n (k + 1)) is_height in
    λ z. works r (op_is.Cut (1 + is_side z) (a z, b z) (0, is_width z) (1 + k) ∷ [])

-- the width of what a rank cuts
width_is : (q r side number cols width all : ℕ) → side ≡ q → number ≡ r → cols ≡ all → width ≡ part_length q cols (number % side) → width ≡ part_length q all (r % q)
width_is q r side number cols width all is_side is_number is_cols is = is ∙ (λ z. part_length q (is_cols z) (is_number z % is_side z))

pub loop-k-preserved : goal.loop-k-preserved
loop-k-preserved c =
    let q = c.args.grid.now.side in
    let r = c.args.rank in
    let side = c.side-side.ensures.value in
    let width = width_is q r _ _ _ _ _ side c.from.ensures c.cols.ensures.value c.part_length-width.ensures.value in
    let is = same q r c.loop-k.k c.args.shape _ _ _ _ side c.rows.ensures.value width c.range.ensures.start c.range.ensures.end in
    next_grew (λ k. works r (sum_cut q c.args.shape r k ∷ [])) c.loop-k.k c.args.plan.now c.loop-k.plan _ is _ c.loop-k.invariant c.in_ok-work.ensures.acts

pub returns : goal.returns
returns c =
    let q = c.args.grid.now.side in
    let r = c.args.rank in
    let f = sum_cut q c.args.shape r in
    let last : c.loop-k.k ≡ q = (let l = c.loop-k-test.false in let m = c.side-side.ensures.value in omega arith) in
    record {
      acts = subst (λ (xs : List Act). Grew xs c.args.plan.now c.loop-k.plan) (ap (λ n. flat_map (λ k. works r (f k ∷ [])) (range_with_len 0 n)) last ∙ sym (works_each r f (range_with_len 0 q))) c.loop-k.invariant;
    }
