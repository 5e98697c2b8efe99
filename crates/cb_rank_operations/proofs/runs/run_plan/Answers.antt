use Rattle.std.proofs.Common.{rules}
use Rattle.cb_operations.specs.Operands.{list_of}
use Rattle.cb_operations.specs.OperationAnswers.{answer_of, shapes_in}
use Rattle.cb_plan_slots.specs.Slots.{whole_operands}
use Rattle.cb_planner.specs.ScatteredOperands.{wholes}
use Rattle.cb_rank_operations.proofs.PlannedOperations.{made_there, trace_for}
use Rattle.cb_rank_operations.proofs.SteppedOrders.{lost_for, ordered_for}
use Rattle.cb_rank_operations.proofs.runs.run_plan.Goals as goal

pub compute-requires-clause-sides : goal.compute-requires-clause-sides
compute-requires-clause-sides g c κs within = c.in_ok-planned.ensures.sides c.args.grid.now.side c.requires.sides

pub compute-requires-clause-makes : goal.compute-requires-clause-makes
compute-requires-clause-makes g c κs within =
    let s = g.S.Semiring.arithmetic in
    let laws = (g.met.S.Semiring g.world.𝓛 g.world.𝓜 g.world.𝓡 ((λ s x. x), (λ x. x), (λ x. x), λ x. x)).is_semiring in
    let ms = wholes (list_of c.args.operands) in (
      answer_of c.args.operation s ms,
      made_there c.args.operation c.args.grid.now.side s laws ms c.requires.matrices c.in_ok-planned.planned c.in_ok-planned.ensures.plan
          c.args.shape c.requires.shape (whole_operands c.in_ok-planned.operands.items) c.in_ok-planned.ensures.slots,
    )

pub returns-clause-ok : goal.returns-clause-ok
returns-clause-ok g c =
    let s = g.S.Semiring.arithmetic in
    let laws = (g.met.S.Semiring g.world.𝓛 g.world.𝓜 g.world.𝓡 ((λ s x. x), (λ x. x), (λ x. x), λ x. x)).is_semiring in
    let ms = wholes (list_of c.args.operands) in
    record {
      agree = c.requires.agree;
      answer = c.in_ok-compute.ensures.ok (answer_of c.args.operation s ms)
          (made_there c.args.operation c.args.grid.now.side s laws ms c.requires.matrices c.in_ok-planned.planned c.in_ok-planned.ensures.plan
          c.args.shape c.requires.shape (whole_operands c.in_ok-planned.operands.items) c.in_ok-planned.ensures.slots);
      order = ordered_for s c.args.grid.now.side ms c.args.operation c.requires.other c.args.engine c.in_ok-planned.planned c.in_ok-planned.ensures.plan c.args.shape c.requires.shape (whole_operands c.in_ok-planned.operands.items) c.in_ok-planned.ensures.slots
          c.in_ok-compute.field-0.answer c.in_ok-compute.field-0.refusals.items c.in_ok-compute.ensures.order;
      trace = trace_for c.args.operation c.requires.other c.args.grid.now.side c.args.engine (shapes_in ms) c.in_ok-planned.planned c.in_ok-planned.ensures.plan c.in_ok-compute.field-0.trace c.in_ok-compute.ensures.trace;
    }

pub returns-in_err-compute-clause-lost : goal.returns-in_err-compute-clause-lost
returns-in_err-compute-clause-lost g c =
    let lost = lost_for g.S.Semiring.arithmetic c.args.grid.now.side (wholes (list_of c.args.operands)) c.args.operation c.requires.other c.args.engine c.in_ok-planned.planned c.in_ok-planned.ensures.plan
    (whole_operands c.in_ok-planned.operands.items) c.in_ok-planned.ensures.slots c.in_err-compute.field-0.0 c.in_err-compute.ensures.lost in
    search (rules, lost)
