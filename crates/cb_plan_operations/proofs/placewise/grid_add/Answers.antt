use Rattle.std.proofs.Common.{List, refl, sym, subst}
use Rattle.std.proofs.lemmas.Result.{IfOk-weaker}
use Rattle.cb_plan.specs.declared.plans.Planned.{Planned}
use Rattle.cb_plan.specs.declared.acts.Act.{Act}
use Rattle.cb_plan_operations.specs.GridPlans.{IsSumPlan}
use Rattle.cb_plan_operations.proofs.Pointwise.{is_sum_plan, sums_flow}
use Rattle.cb_plan_operations.proofs.placewise.grid_add.Goals as goal

pub placewise-requires : goal.placewise-requires
placewise-requires c = rw c.two_operands.ensures (record { slots = refl; flows = λ pos. sums_flow c.args.grid.now.side pos c.args.a })

pub returns-clause-starts : goal.returns-clause-starts
returns-clause-starts c = rw c.two_operands.ensures at c.placewise.ensures.starts

pub returns-clause-sum : goal.returns-clause-sum
returns-clause-sum c =
    let q = c.args.grid.now.side in
    IfOk-weaker c.placewise.result _ (λ (p : Planned). IsSumPlan p.plan.acts q c.args.a) (λ p e. subst (λ (acts : List Act). IsSumPlan acts q c.args.a) (sym e) (is_sum_plan q c.args.a)) c.placewise.ensures.acts
