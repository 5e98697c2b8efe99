use Rattle.std.proofs.Common.{List, refl, sym, subst}
use Rattle.std.proofs.lemmas.Result.{IfOk-weaker}
use Rattle.cb_plan.specs.declared.plans.Planned.{Planned}
use Rattle.cb_plan.specs.declared.acts.Act.{Act}
use Rattle.cb_plan_operations.specs.GridPlans.{IsPrunePlan}
use Rattle.cb_plan_operations.proofs.Pointwise.{is_prune_plan, prunes_flow}
use Rattle.cb_plan_operations.proofs.placewise.grid_prune.Goals as goal

pub placewise-requires : goal.placewise-requires
placewise-requires c = rw c.one_operand.ensures (record { slots = refl; flows = λ pos. prunes_flow c.args.grid.now.side pos c.args.a c.args.test })

pub returns-clause-starts : goal.returns-clause-starts
returns-clause-starts c = rw c.one_operand.ensures at c.placewise.ensures.starts

pub returns-clause-rest : goal.returns-clause-rest
returns-clause-rest c =
    let q = c.args.grid.now.side in
    IfOk-weaker c.placewise.result _ (λ (p : Planned). IsPrunePlan p.plan.acts q c.args.a c.args.test) (λ p e. subst (λ (acts : List Act). IsPrunePlan acts q c.args.a c.args.test) (sym e) (is_prune_plan q c.args.a c.args.test)) c.placewise.ensures.acts
