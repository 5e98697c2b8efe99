use Rattle.std.proofs.Common.{rules, ℕ, List, sym, subst}
use Rattle.cb_plan.specs.Algebras.{matrices}
use Rattle.cb_plan.specs.Meaning.{meaning}
use Rattle.cb_plan.specs.Stores.{state_of}
use Rattle.cb_plan_slots.specs.Slots.{whole_operands}
use Rattle.cb_rank_engines.specs.Orders.{IsOrderedRun}
use Rattle.cb_rank_engines.proofs.Lost.{left_means, left_lost}
use Rattle.cb_rank_engines.proofs.RunAnswers.{left_fits, left_shapes, left_answer}
use Rattle.cb_rank_engines.proofs.SteppedRuns.{ordered_run}
use Rattle.cb_rank_engines.proofs.LostBlocks.{ordered_loss}
use Rattle.cb_rank_engines.proofs.engines.compute.Goals as goal

pub run-requires-clause-fits : goal.run-requires-clause-fits
run-requires-clause-fits g c κs within =
    left_fits g.S.Semiring.arithmetic c.args.grid.now.side (whole_operands c.args.operands.items) c.args.planned c.args.shape c.requires.makes.0 c.requires.makes.1 c.in_ok-stores.stores.items c.in_ok-stores.ensures
    c.into_checked-plan.result.0 c.into_checked-plan.result.1 c.into_checked-plan.ensures.plan c.into_checked-plan.ensures.slot

pub outcome_of-requires-clause-lost : goal.outcome_of-requires-clause-lost
outcome_of-requires-clause-lost g c =
    left_lost g.S.Semiring.arithmetic c.into_checked-plan.result.0 c.in_ok-stores.stores.items c.in_ok-left.left.stores.items c.in_ok-left.left.refusals.items c.in_ok-left.ensures.left

pub outcome_of-requires-clause-meant : goal.outcome_of-requires-clause-meant
outcome_of-requires-clause-meant g c = (
  meaning (matrices g.S.Semiring.arithmetic) c.into_checked-plan.result.0.acts (state_of c.in_ok-stores.stores.items),
  left_means g.S.Semiring.arithmetic c.into_checked-plan.result.0 c.in_ok-stores.stores.items c.in_ok-left.left.stores.items c.in_ok-left.left.refusals.items c.in_ok-left.ensures.left,
  left_shapes g.S.Semiring.arithmetic c.args.grid.now.side (whole_operands c.args.operands.items) c.args.planned c.args.shape c.requires.makes.0 c.requires.makes.1 c.in_ok-stores.stores.items c.in_ok-stores.ensures
      c.into_checked-plan.result.0 c.into_checked-plan.result.1 c.into_checked-plan.ensures.plan c.into_checked-plan.ensures.slot,
)

pub returns-clause-ok : goal.returns-clause-ok
returns-clause-ok g c answer makes =
    let laws = (g.met.S.Semiring g.world.𝓛 g.world.𝓜 g.world.𝓡 ((λ s x. x), (λ x. x), (λ x. x), λ x. x)).is_semiring in
    left_answer g.S.Semiring.arithmetic c.args.grid.now.side (whole_operands c.args.operands.items) c.args.planned c.args.shape answer makes c.in_ok-stores.stores.items c.in_ok-stores.ensures
    c.into_checked-plan.result.0 c.into_checked-plan.result.1 c.into_checked-plan.ensures.plan c.into_checked-plan.ensures.slot laws c.in_ok-left.left.stores.items
    (left_means g.S.Semiring.arithmetic c.into_checked-plan.result.0 c.in_ok-stores.stores.items c.in_ok-left.left.stores.items c.in_ok-left.left.refusals.items c.in_ok-left.ensures.left) c.in_ok-outcome.outcome.answer c.in_ok-outcome.ensures.ok

pub returns-clause-order : goal.returns-clause-order
returns-clause-order g c =
    subst (λ (counts : List ℕ). IsOrderedRun g.S.Semiring.arithmetic c.args.engine c.args.grid.now.side c.args.planned (whole_operands c.args.operands.items) c.args.shape c.in_ok-outcome.outcome.answer counts) (sym c.in_ok-outcome.ensures.rest.0)
    (ordered_run g.S.Semiring.arithmetic c.args.grid.now.side c.args.planned (whole_operands c.args.operands.items) c.args.shape c.in_ok-stores.stores.items c.in_ok-stores.ensures
    c.into_checked-plan.result.0 c.into_checked-plan.result.1 c.into_checked-plan.ensures.plan c.into_checked-plan.ensures.slot c.in_ok-left.left.stores.items c.in_ok-left.left.refusals.items c.in_ok-outcome.outcome.answer c.in_ok-outcome.ensures.held c.args.engine c.in_ok-left.ensures.order)

pub returns-in_err-outcome-clause-lost : goal.returns-in_err-outcome-clause-lost
returns-in_err-outcome-clause-lost g c =
    let stores = c.in_ok-left.left.stores.items in
    let refusals = c.in_ok-left.left.refusals.items in
    let lost = ordered_loss g.S.Semiring.arithmetic c.args.grid.now.side c.args.planned (whole_operands c.args.operands.items) c.in_ok-stores.stores.items c.in_ok-stores.ensures
    c.into_checked-plan.result.0 c.into_checked-plan.result.1 c.into_checked-plan.ensures.plan c.into_checked-plan.ensures.slot stores refusals c.args.engine c.in_ok-left.ensures.order c.in_err-outcome.field-0.0 c.in_err-outcome.ensures.fault in
    search (rules, lost)
