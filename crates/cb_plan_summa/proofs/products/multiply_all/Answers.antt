use Rattle.std.proofs.Common.{◌≡◌, ℕ, ap, subst, sym, ◌∙◌, arith}
use Rattle.cb_plan.specs.declared.acts.Op.TheVariants as op_is
use Rattle.cb_plan_parts.specs.Growth.{IsWithinLimit, Grew}
use Rattle.cb_plan_parts.specs.PlanParts.{each_rank}
use Rattle.cb_plan_summa.specs.Summa.{left_slot, right_slot, products}
use Rattle.cb_plan_parts.proofs.LoopGrowth.{within_next, grew_next}
use Rattle.cb_plan_summa.proofs.products.multiply_all.Goals as goal

-- the acts, by what is known of the slots
same : (q k a b : ℕ) → a ≡ left_slot k → b ≡ right_slot k → each_rank q (λ _. op_is.MulAdd a b 2) ≡ products q k
same q k a b e f = ap (λ x. each_rank q (λ _. op_is.MulAdd x b 2)) e ∙ ap (λ x. each_rank q (λ _. op_is.MulAdd (left_slot k) x 2)) f

pub work_everywhere-requires : goal.work_everywhere-requires
work_everywhere-requires c =
    let q = c.args.grid.now.side in
    let l = c.loop-k-test.true in
    let m = c.side-k-end.ensures.value in
    subst (IsWithinLimit c.loop-k.plan) (sym (same q c.loop-k.k _ _ c.left_slot.ensures c.right_slot.ensures))
    (within_next (products q) c.loop-k.k c.args.plan.now c.loop-k.plan q (omega arith) c.requires c.loop-k.invariant)

pub loop-k-preserved : goal.loop-k-preserved
loop-k-preserved c =
    let q = c.args.grid.now.side in
    let grew = subst (λ acts. Grew acts c.loop-k.plan c.work_everywhere.new.plan) (same q c.loop-k.k _ _ c.left_slot.ensures c.right_slot.ensures) c.in_ok-work_everywhere.ensures.acts in
    grew_next (products q) c.loop-k.k c.args.plan.now c.loop-k.plan _ c.loop-k.invariant grew
