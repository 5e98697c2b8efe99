-- What ranks make that are stepped in an order, as an operation's.
use Rattle.std.proofs.Common.{◌≡◌, ◌≢◌, ℕ, List, [], ◌∷◌, sym, subst, inr}
use Rattle.cb_semirings.specs.Arithmetic.{Arithmetic}
use Rattle.cb_matrix.specs.Sparse.{Sparse, Extent}
use Rattle.cb_layout.specs.Distributed.{Distributed}
use Rattle.cb_plan.specs.declared.plans.Planned.{Planned}
use Rattle.cb_plan.specs.Plans.{CheckedView}
use Rattle.cb_rank_world.specs.declared.events.Event.{Event}
use Rattle.cb_operations.specs.declared.operations.Operation.{Operation}
use Rattle.cb_operations.specs.declared.operations.Operation.TheVariants.{MultiplyVector}
use Rattle.cb_operations.specs.OperationAnswers.{matrix_at, shape_of, shapes_in}
use Rattle.cb_planner.specs.OperationPlans.{Computes, placed_operands}
use Rattle.cb_rank_engines.specs.declared.engines.Engine.{Engine}
use Rattle.cb_rank_engines.specs.declared.engines.Engine.TheVariants.{Threads, Traced, InOrder}
use Rattle.cb_rank_faults.specs.declared.RanksFault.{RanksFault}
use Rattle.cb_rank_faults.specs.declared.RanksFault.TheVariants.{Lost}
use Rattle.cb_rank_engines.specs.Orders.{IsSteppedLoss, IsSteppedRun, IsOrderedLoss, IsOrderedRun}
use Rattle.cb_rank_engines.proofs.SteppedRuns.{of_its_order}
use Rattle.cb_plan_vectors.specs.SpreadVectors.{MultipliesVectors}
use Rattle.cb_rank_operations.specs.VectorOrders.{IsSteppedProduct, IsSteppedProductLoss, IsOrderedProduct}
use Rattle.cb_rank_operations.specs.declared.operation_faults.OperationFault.TheVariants.{Failed}
use Rattle.cb_rank_operations.specs.Outcomes.{IsSteppedFor, IsOrderedFor, IsSteppedLossFor, IsLossFor}
use Rattle.cb_rank_operations.proofs.PlannedOperations.{by_plan}

module _ (s : Arithmetic) (q : ℕ) (ms : List Sparse) where
  -- a run on these operands in these slots, with an answer of this shape, is one of the operation
  stepped_there : (operation : Operation) → operation ≢ MultiplyVector → (planned : Planned) → Computes operation q (shapes_in ms) planned →
      (shape : Extent) → shape ≡ shape_of operation (shapes_in ms) → (there : List (ℕ × Sparse)) → there ≡ placed_operands ms → (letters : ℕ) (order : List Event) (answer : Distributed) (refusals : List ℕ) →
      IsSteppedRun s q planned there shape letters order answer refusals → IsSteppedFor s operation q ms letters order answer refusals
  stepped_there operation other planned computes shape shaped there placed letters order answer refusals run =
      by_plan operation other q (shapes_in ms) (λ plan. IsSteppedProduct s q plan (matrix_at ms 0) (matrix_at ms 1) answer.matrix letters order refusals)
      (λ p. IsSteppedRun s q p (placed_operands ms) (shape_of operation (shapes_in ms)) letters order answer refusals) planned computes
      (subst (λ (d : Extent). IsSteppedRun s q planned (placed_operands ms) d letters order answer refusals) shaped
      (subst (λ (ps : List (ℕ × Sparse)). IsSteppedRun s q planned ps shape letters order answer refusals) placed run))

  -- an engine's run of an operation's plan is one of the operation
  pub ordered_for : (operation : Operation) → operation ≢ MultiplyVector → (engine : Engine) (planned : Planned) → Computes operation q (shapes_in ms) planned →
      (shape : Extent) → shape ≡ shape_of operation (shapes_in ms) → (there : List (ℕ × Sparse)) → there ≡ placed_operands ms → (answer : Distributed) (refusals : List ℕ) →
      IsOrderedRun s engine q planned there shape answer refusals → IsOrderedFor s engine operation q ms answer refusals
  ordered_for operation other (Threads letters) planned computes shape shaped there placed answer refusals run =
      inr (run.0, stepped_there operation other planned computes shape shaped there placed letters run.0 answer refusals run.1)
  ordered_for operation other (Traced letters) planned computes shape shaped there placed answer refusals run =
      (run.0, stepped_there operation other planned computes shape shaped there placed letters run.0 answer refusals run.1)
  ordered_for operation other (InOrder letters order) planned computes shape shaped there placed answer refusals run =
      stepped_there operation other planned computes shape shaped there placed letters order.now answer refusals run

  lost_there : (operation : Operation) → operation ≢ MultiplyVector → (planned : Planned) → Computes operation q (shapes_in ms) planned →
      (there : List (ℕ × Sparse)) → there ≡ placed_operands ms → (letters : ℕ) (order : List Event) (r count : ℕ) →
      IsSteppedLoss s q planned there letters order r count → IsSteppedLossFor s operation q ms letters order r count
  lost_there operation other planned computes there placed letters order r count loss =
      by_plan operation other q (shapes_in ms) (λ plan. IsSteppedProductLoss s q plan (matrix_at ms 0) (matrix_at ms 1) letters order r count)
      (λ p. IsSteppedLoss s q p (placed_operands ms) letters order r count) planned computes
      (subst (λ (ps : List (ℕ × Sparse)). IsSteppedLoss s q planned ps letters order r count) placed loss)

  -- a loss by an operation's plan is one of the operation
  pub lost_for : (operation : Operation) → operation ≢ MultiplyVector → (engine : Engine) (planned : Planned) → Computes operation q (shapes_in ms) planned →
      (there : List (ℕ × Sparse)) → there ≡ placed_operands ms → (e : RanksFault) → IsOrderedLoss s engine q planned there e → IsLossFor s engine operation q ms (Failed e)
  lost_for operation other engine planned computes there placed (Lost r count) loss =
      of_its_order engine (λ letters order. IsSteppedLoss s q planned there letters order r count) (λ letters order. IsSteppedLossFor s operation q ms letters order r count)
      (λ letters order is. lost_there operation other planned computes there placed letters order r count is) loss
  lost_for operation other engine planned computes there placed _ loss = tt

-- a run of a plan for products by vectors is one of a product by a vector
pub ordered_vector : (s : Arithmetic) (engine : Engine) (q : ℕ) (a x : Sparse) (plan : CheckedView) → MultipliesVectors q a.shape plan → (answer : Distributed) (y : Sparse) → answer.matrix ≡ y → (refusals : List ℕ) →
    IsOrderedProduct s engine q plan a x y refusals → IsOrderedFor s engine MultiplyVector q (a ∷ x ∷ []) answer refusals
ordered_vector s (Threads letters) q a x plan multiplies answer y is refusals run =
    inr (run.0, (plan, multiplies, subst (λ (z : Sparse). IsSteppedProduct s q plan a x z letters run.0 refusals) (sym is) run.1))
ordered_vector s (Traced letters) q a x plan multiplies answer y is refusals run =
    (run.0, (plan, multiplies, subst (λ (z : Sparse). IsSteppedProduct s q plan a x z letters run.0 refusals) (sym is) run.1))
ordered_vector s (InOrder letters order) q a x plan multiplies answer y is refusals run =
    (plan, multiplies, subst (λ (z : Sparse). IsSteppedProduct s q plan a x z letters order.now refusals) (sym is) run)
