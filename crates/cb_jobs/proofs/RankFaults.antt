-- Faults of ranks as faults of jobs.
use Rattle.std.proofs.Common.{◌≡◌, ◌∙◌, ℕ, List, inl, inr, refl, sym, subst}
use Rattle.std.specs.Prelude.{Result, Err, Some}
use Rattle.cb_semirings.specs.Arithmetic.{Arithmetic}
use Rattle.cb_semirings.specs.Tables.{min_plus}
use Rattle.cb_matrix.specs.Sparse.{Sparse}
use Rattle.cb_market_lines.specs.Reads.{Reads}
use Rattle.cb_operations.specs.declared.graphs.GraphTask.{GraphTask}
use Rattle.cb_operations.specs.declared.graphs.GraphTask.TheVariants.{Levels, Distances}
use Rattle.cb_operations.specs.declared.operations.Operation.{Operation}
use Rattle.cb_operations.specs.declared.refusals.Refusal.{Refusal}
use Rattle.cb_operations.specs.declared.refusals.Refusal.TheVariants as refusal_is
use Rattle.cb_operations.specs.Graphs.{IsGraphRefusal}
use Rattle.cb_rank_engines.specs.declared.engines.Engine.{Engine}
use Rattle.cb_rank_faults.specs.declared.RanksFault.TheVariants as fault_is
use Rattle.cb_layout.specs.Distributed.{Distributed}
use Rattle.cb_rank_operations.specs.declared.operation_faults.OperationFault.{OperationFault}
use Rattle.cb_rank_operations.specs.declared.operation_faults.OperationFault.TheVariants as operation_is
use Rattle.cb_rank_operations.specs.Outcomes.{IsLossFor, IsRefusal}
use Rattle.cb_rank_operations.specs.Searched.{IsWalkLoss, IsWalkRefusal}
use Rattle.cb_job_inputs.specs.Inputs.{AreMatrices}
use Rattle.cb_job_ends.specs.Texts.{text_at}
use Rattle.cb_job_output.specs.Answers.{IsAnswered}
use Rattle.cb_job_ends.specs.declared.faults.JobFault.{JobFault}
use Rattle.cb_job_ends.specs.declared.faults.JobFault.TheVariants.{Output, Refused}
use Rattle.cb_job_graphs.specs.GraphTasks.{IsGraphFault}
use Rattle.cb_job_output.specs.declared.answers.Answer.{Answer}
use Rattle.cb_jobs.specs.Answers.{IsGraphFaultBy, IsRanksFaultOver, IsRanksWalkFault}
use Rattle.cb_jobs.specs.Engines.{fault_of_operation}

-- a fault of an operation by an engine
pub of_run : (operation : Operation) (s : Arithmetic) (engine : Engine) (side : ℕ) (texts : List (List ℕ)) (ms : List Sparse) (fault : OperationFault) → AreMatrices s texts ms
    → IsRefusal engine operation side ms fault → IsLossFor s engine operation side ms fault → IsRanksFaultOver operation s engine side texts (fault_of_operation fault)
of_run operation s engine side texts ms (operation_is.Refused refusal_is.Shapes) are h loss = inl (ms, are, (refl, h))
of_run operation s engine side texts ms (operation_is.Refused _) are h loss = absurd h
of_run operation s engine side texts ms (operation_is.Failed said) are h loss = inr (ms, are, (said, h, loss, refl))

-- a fault of a search by an engine
pub of_search : (task : GraphTask) (s : Arithmetic) (source : ℕ) (engine : Engine) (side : ℕ) (texts : List (List ℕ)) (a : Sparse) (fault : OperationFault)
    → ((refusal : Refusal) → IsGraphRefusal a.shape source refusal → IsGraphFault task texts (Refused refusal)) → Reads s (text_at texts 0) a
    → IsWalkRefusal engine side a.shape source fault → IsWalkLoss engine side a source fault → IsRanksWalkFault task s source engine side texts (fault_of_operation fault)
of_search task s source engine side texts a (operation_is.Refused refusal) refused reads h loss = inl (refused refusal h)
of_search task s source engine side texts a (operation_is.Failed said) refused reads h loss = inr (a, reads, (said, h, loss, refl))

-- it isn't that of a sink
not_output : (fault : OperationFault) → fault_of_operation fault ≡ Output → ⊥
not_output (operation_is.Failed fault_is.Memory) h = cc
not_output _ h = cc

-- the end of a task whose search fails
pub end_of_search : {S : Type 0} {IsText : List ℕ → Type 0} (task : GraphTask) (s : Arithmetic) (source : ℕ) (engine : Engine) (side : ℕ) (texts : List (List ℕ)) (graph : Distributed) (fault : OperationFault) (f : JobFault)
    → ((refusal : Refusal) → IsGraphRefusal graph.matrix.shape source refusal → IsGraphFault task texts (Refused refusal))
    → Reads s (text_at texts 0) graph.matrix → graph.side ≡ side → IsWalkRefusal engine graph.side graph.matrix.shape source fault
    → IsWalkLoss engine graph.side graph.matrix source fault → f ≡ fault_of_operation fault → IsAnswered {S = S} min_plus IsText (IsRanksWalkFault task s source engine side texts) (Err f)
end_of_search task s source engine side texts graph fault f refused reads on_side told lost is =
    let told_there = subst (λ q. IsWalkRefusal engine q graph.matrix.shape source fault) on_side told in
    let lost_there = subst (λ q. IsWalkLoss engine q graph.matrix source fault) on_side lost in
    record {
      answer = tt;
      unwritten = tt;
      fault = subst (IsRanksWalkFault task s source engine side texts) (sym is) (of_search task s source engine side texts graph.matrix fault refused reads told_there lost_there);
      before = λ e. not_output fault (sym is ∙ e);
    }

-- a task that ranks don't do has the faults that it has without them
pub without_ranks : {S : Type 0} {IsText : List ℕ → Type 0} (engine : Engine) (side : ℕ) (task : GraphTask) (texts : List (List ℕ)) (result : Result (Answer S) JobFault)
    → ((source : ℕ) → task ≡ Levels source → ⊥) → ((source : ℕ) → task ≡ Distances source → ⊥)
    → IsAnswered {S = S} min_plus IsText (IsGraphFault task texts) result → IsAnswered {S = S} min_plus IsText (IsGraphFaultBy (Some engine) side task texts) result
without_ranks engine side (Levels source) texts result l d h = absurd (l source refl)
without_ranks engine side (Distances source) texts result l d h = absurd (d source refl)
without_ranks engine side _ texts result l d h = h
