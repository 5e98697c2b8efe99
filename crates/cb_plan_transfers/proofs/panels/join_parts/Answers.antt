use Rattle.std.proofs.Common.{◌≡◌, ℕ, ◌+◌, List, [], ◌∷◌, map, sym, ap, subst, ◌∙◌, arith}
use Rattle.std.specs.List.{range_with_len, flat_map}
use Rattle.std.proofs.lemmas.List.{map-append}
use Rattle.cb_matrix.specs.Sparse.{Extent}
use Rattle.cb_plan.specs.declared.acts.Act.{Act}
use Rattle.cb_plan.specs.declared.acts.Act.TheVariants as act_is
use Rattle.cb_plan.specs.declared.acts.Op.TheVariants as op_is
use Rattle.cb_grid.specs.Parts.{part_start}
use Rattle.cb_plan_parts.specs.Growth.{Grew}
use Rattle.cb_plan_parts.proofs.LoopGrowth.{grew_both}
use Rattle.cb_plan_operations.specs.VectorPlans.{works}
use Rattle.cb_plan_operations.proofs.Loops.{next_grew, works_each}
use Rattle.cb_plan_transfers.specs.Panels.{placed_part}
use Rattle.cb_plan_transfers.specs.Rounds.{sums}
use Rattle.cb_plan_transfers.proofs.panels.join_parts.Goals as goal

-- the act, by what is known of the range
same : (q r i left : ℕ) (shape : Extent) (height side top : ℕ) → height ≡ shape.rows → side ≡ q → top ≡ part_start q height i →
    works r (op_is.Place (1 + side + i) shape (top, left) (1 + side + i) ∷ []) ≡ works r (placed_part q shape left i ∷ [])
same q r i left shape height side top is_height is_side begins =
    let a : top ≡ part_start q shape.rows i = begins ∙ ap (λ n. part_start q n i) is_height in
    λ z. works r (op_is.Place (1 + is_side z + i) shape (a z, left) (1 + is_side z + i) ∷ [])

pub loop-i-preserved : goal.loop-i-preserved
loop-i-preserved c =
    let q = c.args.grid.now.side in
    let r = c.args.rank in
    let is = same q r c.loop-i.i c.args.left c.args.shape _ _ _ c.rows.ensures.value c.side-side.ensures.value c.range-top.ensures.start in
    next_grew (λ i. works r (placed_part q c.args.shape c.args.left i ∷ [])) c.loop-i.i c.args.plan.now c.loop-i.plan _ is _ c.loop-i.invariant c.in_ok-work.ensures.acts

pub returns : goal.returns
returns c =
    let q = c.args.grid.now.side in
    let r = c.args.rank in
    let f = placed_part q c.args.shape c.args.left in
    let side = c.side-side.ensures.value in
    let last : c.loop-i.i ≡ q = (let l = c.loop-i-test.false in omega (arith, side)) in
    let places : Grew (works r (map f (range_with_len 0 q))) c.args.plan.now c.loop-i.plan =
    subst (λ (xs : List Act). Grew xs c.args.plan.now c.loop-i.plan) (ap (λ n. flat_map (λ i. works r (f i ∷ [])) (range_with_len 0 n)) last ∙ sym (works_each r f (range_with_len 0 q))) c.loop-i.invariant in
    let added : Grew (works r (sums (1 + q) q)) c.loop-i.plan c.add_up.new.plan =
    subst (λ (xs : List Act). Grew xs c.loop-i.plan c.add_up.new.plan) (λ z. works r (sums (1 + side z) (side z))) c.in_ok-add_up.ensures.acts in
    record {
      acts = subst (λ (xs : List Act). Grew xs c.args.plan.now c.add_up.new.plan) (sym (map-append (λ op. act_is.Work r op) (map f (range_with_len 0 q)) (sums (1 + q) q)))
          (grew_both (works r (map f (range_with_len 0 q))) (works r (sums (1 + q) q)) c.args.plan.now c.loop-i.plan c.add_up.new.plan places added);
    }
