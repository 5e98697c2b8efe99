use Rattle.std.proofs.Common.{◌≡◌, ◌-◌, List, [], ◌∷◌, sym, ap, subst, ◌∙◌, arith}
use Rattle.std.specs.List.{range_with_len, flat_map}
use Rattle.cb_plan.specs.declared.acts.Act.{Act}
use Rattle.cb_plan_parts.specs.Growth.{IsWithinLimit, Grew}
use Rattle.cb_plan_parts.proofs.LoopGrowth.{within_next, grew_next}
use Rattle.cb_plan_operations.specs.VectorPlans.{works, next_summand}
use Rattle.cb_plan_operations.proofs.Loops.{works_each}
use Rattle.cb_plan_operations.proofs.vector_plans.add_others.Goals as goal

pub work-requires : goal.work-requires
work-requires c =
    let q = c.args.grid.now.side in
    let r = c.args.rank in
    let l = c.loop-s-test.true in
    let m = c.side-s-end.ensures.value in
    within_next (λ s. works r (next_summand s ∷ [])) c.loop-s.s c.args.plan.now c.loop-s.plan (q - 1) (omega arith)
    (subst (λ (xs : List Act). IsWithinLimit c.args.plan.now xs) (works_each r next_summand (range_with_len 0 (q - 1))) c.requires) c.loop-s.invariant

pub loop-s-preserved : goal.loop-s-preserved
loop-s-preserved c = grew_next (λ s. works c.args.rank (next_summand s ∷ [])) c.loop-s.s c.args.plan.now c.loop-s.plan _ c.loop-s.invariant c.in_ok-work.ensures.acts

pub returns-clause-acts : goal.returns-clause-acts
returns-clause-acts c =
    let q = c.args.grid.now.side in
    let r = c.args.rank in
    let last : c.loop-s.s ≡ q - 1 = (let l = c.loop-s-test.false in let m = c.side-s-end.ensures.value in omega arith) in
    subst (λ (xs : List Act). Grew xs c.args.plan.now c.loop-s.plan) (ap (λ n. flat_map (λ s. works r (next_summand s ∷ [])) (range_with_len 0 n)) last ∙ sym (works_each r next_summand (range_with_len 0 (q - 1)))) c.loop-s.invariant
