use Rattle.std.proofs.Common.{List, refl, sym, subst}
use Rattle.std.proofs.lemmas.Result.{IfOk-weaker}
use Rattle.cb_plan.specs.declared.plans.Planned.{Planned}
use Rattle.cb_plan.specs.declared.acts.Act.{Act}
use Rattle.cb_plan_operations.specs.GridPlans.{IsTimesPlan}
use Rattle.cb_plan_operations.proofs.Pointwise.{is_times_plan, products_flow}
use Rattle.cb_plan_operations.proofs.placewise.grid_times.Goals as goal

pub placewise-requires : goal.placewise-requires
placewise-requires c = rw c.two_operands.ensures (record { slots = refl; flows = λ pos. products_flow c.args.grid.now.side pos c.args.a })

pub returns-clause-starts : goal.returns-clause-starts
returns-clause-starts c = rw c.two_operands.ensures at c.placewise.ensures.starts

pub returns-clause-product : goal.returns-clause-product
returns-clause-product c =
    let q = c.args.grid.now.side in
    IfOk-weaker c.placewise.result _ (λ (p : Planned). IsTimesPlan p.plan.acts q c.args.a) (λ p e. subst (λ (acts : List Act). IsTimesPlan acts q c.args.a) (sym e) (is_times_plan q c.args.a)) c.placewise.ensures.acts
