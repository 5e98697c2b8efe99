-- What a run of an operation by an engine returns.
use Rattle.std.specs.Prelude.{◌≡◌, ℕ, ◌*◌, ◌⊎◌, List, [], Option, None}
use Rattle.cb_semirings.specs.Arithmetic.{Arithmetic}
use Rattle.cb_matrix.specs.Sparse.{Sparse, Extent}
use Rattle.cb_layout.specs.Distributed.{Distributed}
use Rattle.cb_plan.specs.declared.plans.Planned.{Planned}
use Rattle.cb_trace.specs.Traces.{TraceView}
use Rattle.cb_operations.specs.declared.operations.Operation.{Operation}
use Rattle.cb_operations.specs.declared.refusals.Refusal.TheVariants.{Shapes}
use Rattle.cb_operations.specs.declared.operations.Operation.TheVariants.{MultiplyVector}
use Rattle.cb_operations.specs.OperationAnswers.{Agree, answer_of, extent_at, matrix_at, shape_of, shapes_in}
use Rattle.cb_plan.specs.Plans.{CheckedView}
use Rattle.cb_plan_vectors.specs.SpreadVectors.{MultipliesVectors}
use Rattle.cb_rank_operations.specs.VectorOrders.{IsSteppedProduct, IsSteppedProductLoss}
use Rattle.cb_rank_engines.specs.declared.engines.Engine.{Engine}
use Rattle.cb_rank_engines.specs.declared.engines.Engine.TheVariants.{Threads, Traced, InOrder}
use Rattle.cb_rank_engines.specs.declared.engines.Outcome.{Outcome}
use Rattle.cb_rank_faults.specs.declared.RanksFault.TheVariants.{Lost}
use Rattle.cb_rank_engines.specs.EngineRuns.{IsEngineFault, IsTraceOf, checked_of}
use Rattle.cb_rank_world.specs.declared.events.Event.{Event}
use Rattle.cb_rank_engines.specs.Orders.{IsSteppedLoss, IsSteppedRun, OfItsOrder}
use Rattle.cb_plan_slots.specs.Answers.{over_grid}
use Rattle.cb_planner.specs.OperationPlans.{Computes, placed_operands}
pub use Rattle.cb_planner.specs.ScatteredOperands.{LieOver, wholes, IsEmptyProduct}
use Rattle.cb_rank_operations.specs.declared.operation_faults.OperationFault.{OperationFault}
use Rattle.cb_rank_operations.specs.declared.operation_faults.OperationFault.TheVariants.{Refused, Failed}

-- The first holds of a plan for products by vectors, if the operation is one, with the vector spread over all ranks. For any
-- other operation, the second holds of a plan by which ranks compute it, over any semiring, on any matrices of these shapes.
abbrev pub ByPlan : Operation → ℕ → List Extent → (CheckedView → Type 0) → (Planned → Type 0) → Type 0
ByPlan MultiplyVector q shapes of_vectors of_others = (plan : CheckedView) × MultipliesVectors q (extent_at shapes 0) plan × of_vectors plan
ByPlan operation q shapes of_vectors of_others = (planned : Planned) × Computes operation q shapes planned × of_others planned

-- an engine that keeps a trace has that of a plan by which ranks compute the operation; the others have none
abbrev pub IsTraceFor : Engine → Operation → ℕ → List Extent → Option TraceView → Type 0
IsTraceFor (Traced letters) operation q shapes t =
    ByPlan operation q shapes (λ plan. IsTraceOf (Traced letters) plan t) (λ planned. IsTraceOf (Traced letters) (checked_of planned) t)
IsTraceFor engine operation q shapes t = t ≡ None

-- ranks that are stepped in an order make this answer, by a plan for the operation
abbrev pub IsSteppedFor : Arithmetic → Operation → ℕ → List Sparse → ℕ → List Event → Distributed → List ℕ → Type 0
IsSteppedFor s operation q ms letters order answer refusals =
    ByPlan operation q (shapes_in ms)
    (λ plan. IsSteppedProduct s q plan (matrix_at ms 0) (matrix_at ms 1) answer.matrix letters order refusals)
    (λ planned. IsSteppedRun s q planned (placed_operands ms) (shape_of operation (shapes_in ms)) letters order answer refusals)

-- they lose a block of the answer, or of the matrix in a product by a vector, at rank r, which was refused memory `count` times
abbrev pub IsSteppedLossFor : Arithmetic → Operation → ℕ → List Sparse → ℕ → List Event → ℕ → ℕ → Type 0
IsSteppedLossFor s operation q ms letters order r count =
    ByPlan operation q (shapes_in ms)
    (λ plan. IsSteppedProductLoss s q plan (matrix_at ms 0) (matrix_at ms 1) letters order r count)
    (λ planned. IsSteppedLoss s q planned (placed_operands ms) letters order r count)

-- An engine returns what ranks make that are stepped in its order, or, if its ranks run in threads, in some order.
-- For a product with a factor without entries `Threads` may run no ranks; then there are no counts of refusals.
abbrev pub IsOrderedFor : Arithmetic → Engine → Operation → ℕ → List Sparse → Distributed → List ℕ → Type 0
IsOrderedFor s (InOrder letters order) operation q ms answer refusals = IsSteppedFor s operation q ms letters order.now answer refusals
IsOrderedFor s (Threads letters) operation q ms answer refusals =
    (IsEmptyProduct operation ms × (refusals ≡ [])) ⊎ ((order : List Event) × IsSteppedFor s operation q ms letters order answer refusals)
IsOrderedFor s (Traced letters) operation q ms answer refusals =
    (order : List Event) × IsSteppedFor s operation q ms letters order answer refusals

-- On a grid of side q: the shapes agree, the answer is the operation's result for these matrices, and the order and the
-- trace are the engine's.
pub record IsOutcome {S : Type 0} (s : Arithmetic) (engine : Engine) (operation : Operation) (q : ℕ) (ms : List Sparse) (done : Outcome S) : Type 0 where
  pub agree : Agree operation (shapes_in ms)
  pub answer : done.answer ≡ record { side = q; matrix = answer_of operation s ms }
  pub order : IsOrderedFor s engine operation q ms done.answer done.refusals.items
  pub trace : IsTraceFor engine operation q (shapes_in ms) done.trace

-- why an operation fails: the shapes don't agree, or, if they do, a fault of the engine
abbrev pub IsRefusal : Engine → Operation → ℕ → List Sparse → OperationFault → Type 0
IsRefusal engine operation q ms (Refused Shapes) = ¬ Agree operation (shapes_in ms)
IsRefusal engine operation q ms (Refused _) = ⊥
IsRefusal engine operation q ms (Failed fault) = Agree operation (shapes_in ms) × IsEngineFault engine (q * q) fault

-- if a block is lost, ranks lose it that are stepped in the engine's order, or, if its ranks run in threads, in some order
abbrev pub IsLossFor : Arithmetic → Engine → Operation → ℕ → List Sparse → OperationFault → Type 0
IsLossFor s engine operation q ms (Failed (Lost r count)) = OfItsOrder engine (λ letters order. IsSteppedLossFor s operation q ms letters order r count)
IsLossFor s engine operation q ms _ = Unit {0}

-- an engine makes this whole matrix, with some counts of refusals
abbrev pub IsMadeInOrder : Arithmetic → Engine → Operation → ℕ → List Sparse → Sparse → Type 0
IsMadeInOrder s engine operation q ms answer =
    (refusals : List ℕ) × IsOrderedFor s engine operation q ms (over_grid q answer) refusals
