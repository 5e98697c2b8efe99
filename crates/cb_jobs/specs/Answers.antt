-- The answers of jobs that ranks may compute, and the reasons why there is none.
use Rattle.std.specs.Prelude.{ℕ, ◌≡◌, ◌⊎◌, ◌++◌, List, Option, Some}
use Rattle.cb_semirings.specs.Arithmetic.{Arithmetic}
use Rattle.cb_semirings.specs.Names.{arithmetic_of}
use Rattle.cb_semirings.specs.Tables.{min_plus, or_and}
use Rattle.cb_matrix.specs.Sparse.{Sparse}
use Rattle.cb_market_lines.specs.Reads.{Reads}
use Rattle.cb_market_pages.specs.Text.{text_of}
use Rattle.cb_trace.specs.Traces.{TraceView}
use Rattle.cb_operations.specs.declared.operations.Operation.{Operation}
use Rattle.cb_operations.specs.declared.computations.Computation.{Computation}
use Rattle.cb_operations.specs.declared.computations.Computation.TheVariants as computation_is
use Rattle.cb_operations.specs.OperationAnswers.{Agree, answer_of, shapes_in}
use Rattle.cb_rank_engines.specs.declared.engines.Engine.{Engine}
use Rattle.cb_rank_engines.specs.declared.engines.Outcome.{Outcome}
use Rattle.cb_rank_faults.specs.declared.RanksFault.{RanksFault}
use Rattle.cb_rank_operations.specs.declared.operation_faults.OperationFault.TheVariants.{Failed}
use Rattle.cb_rank_operations.specs.Outcomes.{IsLossFor, IsRefusal, IsTraceFor}
use Rattle.cb_rank_operations.specs.Searched.{IsWalkLoss, IsWalkRefusal}
use Rattle.cb_command_line.specs.declared.jobs.Job.{Job}
use Rattle.cb_command_line.specs.declared.tasks.Task.{Task}
use Rattle.cb_command_line.specs.declared.tasks.Task.TheVariants as task_is
use Rattle.cb_operations.specs.declared.graphs.GraphTask.{GraphTask}
use Rattle.cb_operations.specs.declared.graphs.GraphTask.TheVariants.{Levels, Distances}
use Rattle.cb_job_inputs.specs.Inputs.{AreMatrices}
use Rattle.cb_job_computations.specs.ComputedTexts.{IsAnswerOver, IsFaultOver}
use Rattle.cb_job_computations.specs.Extracts.{IsExtractAnswer, IsExtractFault}
use Rattle.cb_job_graphs.specs.GraphTasks.{IsGraphAnswer, IsGraphFault}
use Rattle.cb_job_ends.specs.Texts.{text_at}
use Rattle.cb_job_ends.specs.declared.faults.JobFault.{JobFault}
use Rattle.cb_jobs.specs.Engines.{engine_of, fault_of_operation}
use Rattle.cb_jobs.specs.TraceTexts.{trace_lines}

-- the text that is written: that of the matrix, and then, if there is a trace, a line for each of its events
abbrev pub text_and_trace : Arithmetic → Sparse → Option TraceView → List ℕ
text_and_trace s m trace = text_of s m ++ trace_lines trace

-- The answer of an operation over a semiring, by an engine on a grid of this side. It is the text of the result, for the
-- matrices that the texts read as. If the engine keeps a trace, a line for each event follows, of a trace of ranks that make
-- the result.
pub record IsRanksAnswer (operation : Operation) (s : Arithmetic) (engine : Engine) (side : ℕ) (texts : List (List ℕ)) (answer : List ℕ) : Type 0 where
  pub ms : List Sparse
  pub are : AreMatrices s texts ms
  pub agree : Agree operation (shapes_in ms)
  pub trace : Option TraceView
  pub kept : IsTraceFor engine operation side (shapes_in ms) trace
  pub whole : answer ≡ text_and_trace s (answer_of operation s ms) trace

-- the matrix and the trace that a run leaves give the right text
abbrev pub IsOutcomeOver : {S : Type 0} → Operation → Arithmetic → Engine → ℕ → List (List ℕ) → Outcome S → Type 0
IsOutcomeOver operation s engine side texts done = IsRanksAnswer operation s engine side texts (text_and_trace s done.answer.matrix done.trace)

-- The texts read as matrices whose shapes agree, and an engine may fail so on them: at a fault that it may have on a grid of
-- this side. If a block is lost, ranks lose it that are stepped in the engine's order or, if they run in threads, in some order.
abbrev pub IsRunFailure : Operation → Arithmetic → Engine → ℕ → List (List ℕ) → JobFault → Type 0
IsRunFailure operation s engine side texts fault =
    (ms : List Sparse) × AreMatrices s texts ms × ((said : RanksFault) × IsRefusal engine operation side ms (Failed said)
    × IsLossFor s engine operation side ms (Failed said) × (fault ≡ fault_of_operation (Failed said)))

-- why there is none, or why it wasn't written: as without ranks; or the operands are right, and the ranks failed
abbrev pub IsRanksFaultOver : Operation → Arithmetic → Engine → ℕ → List (List ℕ) → JobFault → Type 0
IsRanksFaultOver operation s engine side texts fault =
    IsFaultOver (computation_is.Operation operation) s texts fault ⊎ IsRunFailure operation s engine side texts fault

-- The text reads as a graph that has the source, and an engine may fail so in a search from there: the same.
abbrev pub IsWalkFailure : Arithmetic → ℕ → Engine → ℕ → List (List ℕ) → JobFault → Type 0
IsWalkFailure s source engine side texts fault =
    (a : Sparse) × Reads s (text_at texts 0) a × ((said : RanksFault) × IsWalkRefusal engine side a.shape source (Failed said)
    × IsWalkLoss engine side a source (Failed said) × (fault ≡ fault_of_operation (Failed said)))

-- why there are no levels or distances: as without ranks; or the source is a vertex of the graph, and the ranks failed
abbrev pub IsRanksWalkFault : GraphTask → Arithmetic → ℕ → Engine → ℕ → List (List ℕ) → JobFault → Type 0
IsRanksWalkFault task s source engine side texts fault = IsGraphFault task texts fault ⊎ IsWalkFailure s source engine side texts fault

-- the answer of a computation over a semiring: of an operation by an engine, if there is one, and otherwise without
abbrev pub IsComputationAnswer : Option Engine → ℕ → Computation → Arithmetic → List (List ℕ) → List ℕ → Type 0
IsComputationAnswer (Some engine) side (computation_is.Operation operation) s = IsRanksAnswer operation s engine side
IsComputationAnswer _ side computation s = IsAnswerOver computation s

-- why there is none
abbrev pub IsComputationFault : Option Engine → ℕ → Computation → Arithmetic → List (List ℕ) → JobFault → Type 0
IsComputationFault (Some engine) side (computation_is.Operation operation) s = IsRanksFaultOver operation s engine side
IsComputationFault _ side computation s = IsFaultOver computation s

-- why a task on a graph has no answer, or why the answer wasn't written
abbrev pub IsGraphFaultBy : Option Engine → ℕ → GraphTask → List (List ℕ) → JobFault → Type 0
IsGraphFaultBy (Some engine) side (Levels source) = IsRanksWalkFault (Levels source) or_and source engine side
IsGraphFaultBy (Some engine) side (Distances source) = IsRanksWalkFault (Distances source) min_plus source engine side
IsGraphFaultBy _ side task = IsGraphFault task

-- The answer of a task: by an engine on a grid of this side or, without one, by threads that share whole blocks. Only an
-- operation may have a trace.
abbrev pub IsAnswer : Option Engine → ℕ → Task → List (List ℕ) → List ℕ → Type 0
IsAnswer engine side (task_is.Compute computation semiring) = IsComputationAnswer engine side computation (arithmetic_of semiring)
IsAnswer engine side (task_is.Extract lists semiring) = IsExtractAnswer lists (arithmetic_of semiring)
IsAnswer engine side (task_is.Graph task) = IsGraphAnswer task

-- why it has no answer, or why the answer wasn't written
abbrev pub IsFault : Option Engine → ℕ → Task → List (List ℕ) → JobFault → Type 0
IsFault engine side (task_is.Compute computation semiring) = IsComputationFault engine side computation (arithmetic_of semiring)
IsFault engine side (task_is.Extract lists semiring) = IsExtractFault lists (arithmetic_of semiring)
IsFault engine side (task_is.Graph task) = IsGraphFaultBy engine side task

-- the answer of a job: of its task, by the engine that it names
abbrev pub IsJobAnswer : Job → List (List ℕ) → List ℕ → Type 0
IsJobAnswer job = IsAnswer (engine_of job.engine) job.side job.task

-- why it has no answer, or why the answer wasn't written
abbrev pub IsJobFault : Job → List (List ℕ) → JobFault → Type 0
IsJobFault job = IsFault (engine_of job.engine) job.side job.task
