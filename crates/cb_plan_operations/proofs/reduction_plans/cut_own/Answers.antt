use Rattle.std.proofs.Common.{◌≡◌, List, [], ◌∷◌, sym, ap, subst, ◌∙◌, arith}
use Rattle.std.specs.List.{range_with_len, flat_map}
use Rattle.cb_plan.specs.declared.acts.Act.{Act}
use Rattle.cb_plan_parts.specs.Growth.{IsWithinLimit, Grew}
use Rattle.cb_plan_parts.proofs.LoopGrowth.{within_next, grew_next}
use Rattle.cb_plan_operations.specs.VectorPlans.{works}
use Rattle.cb_plan_operations.specs.ReductionPlans.{own_cut}
use Rattle.cb_plan_operations.proofs.Loops.{works_each}
use Rattle.cb_plan_operations.proofs.reduction_plans.cut_own.Goals as goal

pub work-requires : goal.work-requires
work-requires c =
    let q = c.args.grid.now.side in
    let r = c.args.rank in
    let l = c.loop-t-test.true in
    let m = c.side-t-end.ensures.value in
    within_next (λ t. works r (own_cut c.args.rows c.args.width t ∷ [])) c.loop-t.t c.args.plan.now c.loop-t.plan q (omega arith)
    (subst (λ (xs : List Act). IsWithinLimit c.args.plan.now xs) (works_each r (own_cut c.args.rows c.args.width) (range_with_len 0 q)) c.requires) c.loop-t.invariant

pub loop-t-preserved : goal.loop-t-preserved
loop-t-preserved c = grew_next (λ t. works c.args.rank (own_cut c.args.rows c.args.width t ∷ [])) c.loop-t.t c.args.plan.now c.loop-t.plan _ c.loop-t.invariant c.in_ok-work.ensures.acts

pub returns-clause-acts : goal.returns-clause-acts
returns-clause-acts c =
    let q = c.args.grid.now.side in
    let r = c.args.rank in
    let last : c.loop-t.t ≡ q = (let l = c.loop-t-test.false in let m = c.side-t-end.ensures.value in omega arith) in
    subst (λ (xs : List Act). Grew xs c.args.plan.now c.loop-t.plan)
    (ap (λ n. flat_map (λ t. works r (own_cut c.args.rows c.args.width t ∷ [])) (range_with_len 0 n)) last ∙ sym (works_each r (own_cut c.args.rows c.args.width) (range_with_len 0 q))) c.loop-t.invariant
