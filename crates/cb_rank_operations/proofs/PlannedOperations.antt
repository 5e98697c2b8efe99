-- What an operation's plan makes of operands over a grid, and the trace that an engine keeps of it.
use Rattle.std.proofs.Common.{◌≡◌, ◌≢◌, ℕ, List, refl, sym, subst}
use Rattle.std.specs.Prelude.{All, Option}
use Rattle.cb_semirings.specs.Arithmetic.{Arithmetic, IsSemiring}
use Rattle.cb_matrix.specs.Sparse.{Sparse, Extent, IsMatrix}
use Rattle.cb_plan.specs.declared.plans.Planned.{Planned}
use Rattle.cb_plan.specs.Plans.{CheckedView}
use Rattle.cb_plan_vectors.specs.SpreadVectors.{MultipliesVectors}
use Rattle.cb_trace.specs.Traces.{TraceView}
use Rattle.cb_operations.specs.declared.operations.Operation.{Operation}
use Rattle.cb_operations.specs.declared.operations.Operation.TheVariants.{MultiplyVector}
use Rattle.cb_operations.specs.OperationAnswers.{extent_at, shape_of, answer_of, shapes_in}
use Rattle.cb_plan_slots.specs.Answers.{Makes}
use Rattle.cb_planner.specs.OperationPlans.{Computes, placed_operands}
use Rattle.cb_rank_engines.specs.declared.engines.Engine.{Engine}
use Rattle.cb_rank_engines.specs.declared.engines.Engine.TheVariants.{Traced}
use Rattle.cb_rank_engines.specs.EngineRuns.{IsTraceOf, checked_of}
use Rattle.cb_rank_operations.specs.Outcomes.{ByPlan, IsTraceFor}

module _ (operation : Operation) (q : ℕ) where
  -- a plan that computes an operation makes its result from these matrices in its slots
  module _ (s : Arithmetic) (laws : IsSemiring s) (ms : List Sparse) (are : All (IsMatrix s) ms) (planned : Planned) (computes : Computes operation q (shapes_in ms) planned) where
    pub made_there : (shape : Extent) → shape ≡ shape_of operation (shapes_in ms) → (there : List (ℕ × Sparse)) → there ≡ placed_operands ms → Makes s q there planned shape (answer_of operation s ms)
    made_there shape shaped there placed =
        subst (λ (ps : List (ℕ × Sparse)). Makes s q ps planned shape (answer_of operation s ms)) (sym placed)
        (subst (λ (d : Extent). Makes s q (placed_operands ms) planned d (answer_of operation s ms)) (sym shaped) (computes s laws ms are refl))

-- what holds of a plan that computes any operation but a product by a vector
pub by_plan : (operation : Operation) → operation ≢ MultiplyVector → (q : ℕ) (shapes : List Extent) (of_vectors : CheckedView → Type 0) (of_others : Planned → Type 0) (planned : Planned) → Computes operation q shapes planned → of_others planned → ByPlan operation q shapes of_vectors of_others
by_plan MultiplyVector other q shapes of_vectors of_others planned computes holds = absurd (other refl)
by_plan _ other q shapes of_vectors of_others planned computes holds = (planned, computes, holds)

-- the trace that an engine keeps of such a plan is one of the operation
pub trace_for : (operation : Operation) → operation ≢ MultiplyVector → (q : ℕ) (engine : Engine) (shapes : List Extent) (planned : Planned) → Computes operation q shapes planned → (t : Option TraceView) → IsTraceOf engine (checked_of planned) t → IsTraceFor engine operation q shapes t
trace_for operation other q (Traced letters) shapes planned computes t is =
    by_plan operation other q shapes (λ plan. IsTraceOf (Traced letters) plan t) (λ p. IsTraceOf (Traced letters) (checked_of p) t) planned computes is
trace_for operation other q _ shapes planned computes t is = is

-- the trace that an engine keeps of a plan for products by vectors is one of a product by a vector
pub vector_trace : (q : ℕ) (engine : Engine) (shapes : List Extent) (plan : CheckedView) → MultipliesVectors q (extent_at shapes 0) plan → (t : Option TraceView) → IsTraceOf engine plan t → IsTraceFor engine MultiplyVector q shapes t
vector_trace q (Traced letters) shapes plan multiplies t is = (plan, multiplies, is)
vector_trace q _ shapes plan multiplies t is = is
