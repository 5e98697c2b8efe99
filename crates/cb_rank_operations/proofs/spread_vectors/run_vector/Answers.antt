use Rattle.std.proofs.Common.{◌≡◌, ℕ, List, [], ◌∷◌, ◌∙◌, sym, subst, ap}
use Rattle.std.specs.Prelude.{Option}
use Rattle.cb_matrix.specs.Sparse.{Sparse, Extent}
use Rattle.cb_matrix.specs.Values.{product}
use Rattle.cb_layout.specs.Distributed.{Distributed}
use Rattle.cb_trace.specs.Traces.{TraceView}
use Rattle.cb_operations.specs.declared.operations.Operands.{Operands}
use Rattle.cb_operations.specs.declared.operations.Operation.TheVariants.{MultiplyVector}
use Rattle.cb_operations.specs.Operands.{list_of}
use Rattle.cb_operations.specs.OperationAnswers.{answer_of, shapes_in}
use Rattle.cb_plan_slots.specs.Answers.{over_grid}
use Rattle.cb_plan_vectors.specs.SpreadVectors.{MultipliesVectors}
use Rattle.cb_rank_operations.specs.VectorOrders.{IsOrderedProduct}
use Rattle.cb_planner.specs.ScatteredOperands.{wholes}
use Rattle.cb_rank_operations.specs.Outcomes.{IsOrderedFor, IsTraceFor}
use Rattle.cb_rank_operations.proofs.PlannedOperations.{vector_trace}
use Rattle.cb_rank_operations.proofs.SteppedOrders.{ordered_vector}
use Rattle.cb_rank_operations.proofs.spread_vectors.run_vector.Goals as goal

pub returns-clause-ok : goal.returns-clause-ok
returns-clause-ok g c =
    let s = g.S.Semiring.arithmetic in
    let engine = c.args.engine in
    let q = c.args.grid.now.side in
    let a = c.in-Two.matrix.matrix in
    let x = c.in-Two.vector.matrix in
    let done = c.in_ok-done.done in
    let made = c.in_ok-laid_out.field-0 in
    let is = c.in_ok-laid_out.ensures in
    let multiplies : MultipliesVectors q a.shape c.in_ok-plan.plan = subst (λ (d : Extent). MultipliesVectors q d c.in_ok-plan.plan) c.shape.ensures.shape c.in_ok-plan.ensures.plan in
    let ordered : IsOrderedProduct s engine q c.in_ok-plan.plan a x done.product done.refusals.items =
    subst (λ (y : Sparse). IsOrderedProduct s engine q c.in_ok-plan.plan a y done.product done.refusals.items) c.in_ok-plan.ensures.vector c.in_ok-done.ensures.order in
    let held : made.answer.matrix ≡ done.product = ap (λ (d : Distributed). d.matrix) is.answer in
    let order : IsOrderedFor s engine MultiplyVector q (a ∷ x ∷ []) made.answer made.refusals.items =
    subst (λ (counts : List ℕ). IsOrderedFor s engine MultiplyVector q (a ∷ x ∷ []) made.answer counts) (sym is.rest.0)
    (ordered_vector s engine q a x c.in_ok-plan.plan multiplies made.answer done.product held done.refusals.items ordered) in
    let trace : IsTraceFor engine MultiplyVector q (a.shape ∷ x.shape ∷ []) made.trace =
    subst (λ (t : Option TraceView). IsTraceFor engine MultiplyVector q (a.shape ∷ x.shape ∷ []) t) (sym is.rest.1)
    (vector_trace q engine (a.shape ∷ x.shape ∷ []) c.in_ok-plan.plan multiplies done.trace c.in_ok-done.ensures.trace) in
    let product_is : done.product ≡ product s a x = c.in_ok-done.ensures.product ∙ ap (λ (y : Sparse). product s a y) c.in_ok-plan.ensures.vector in
    let answer : made.answer ≡ over_grid q (product s a x) = is.answer ∙ ap (λ (m : Sparse). over_grid q m) product_is in
    let operands = sym c.in-Two.is in
    record {
      agree = c.requires.agree;
      answer = subst (λ (o : Operands Distributed). made.answer ≡ over_grid q (answer_of MultiplyVector s (wholes (list_of o)))) operands answer;
      order = subst (λ (o : Operands Distributed). IsOrderedFor s engine MultiplyVector q (wholes (list_of o)) made.answer made.refusals.items) operands order;
      trace = subst (λ (o : Operands Distributed). IsTraceFor engine MultiplyVector q (shapes_in (wholes (list_of o))) made.trace) operands trace;
    }
