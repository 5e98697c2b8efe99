-- How a call ends that computes the answer of a job, or writes it.
use Rattle.std.specs.Prelude.{ℕ, Bool, List, Option, Result}
use Rattle.cb_semirings.specs.Arithmetic.{Arithmetic}
use Rattle.cb_semirings.specs.Tables.{min_plus}
use Rattle.cb_operations.specs.declared.computations.Computation.{Computation}
use Rattle.cb_operations.specs.declared.graphs.GraphTask.{GraphTask}
use Rattle.cb_rank_engines.specs.declared.engines.Engine.{Engine}
use Rattle.cb_command_line.specs.declared.jobs.Job.{Job}
use Rattle.cb_job_ends.specs.WriteEnds.{IsEndOn}
use Rattle.cb_job_ends.specs.declared.faults.JobFault.{JobFault}
use Rattle.cb_job_graphs.specs.GraphTasks.{IsGraphAnswer}
use Rattle.cb_job_output.specs.declared.answers.Answer.{Answer}
use Rattle.cb_job_output.specs.Answers.{IsAnsweredOn}
use Rattle.cb_jobs.specs.Engines.{engine_of}
use Rattle.cb_jobs.specs.Answers.{IsComputationAnswer, IsComputationFault, IsGraphFaultBy, IsJobAnswer, IsJobFault}

-- how a call ends that computes the answer of a computation over a semiring, by an engine on a grid of this side or without one
abbrev pub IsComputationAnswered : {S : Type 0} → Option Engine → ℕ → Computation → Arithmetic → List (List ℕ) → Result (Answer S) JobFault → Type 0
IsComputationAnswered engine side computation s =
    IsAnsweredOn (IsComputationAnswer engine side computation s) (IsComputationFault engine side computation s) s

-- that of a task on a graph
abbrev pub IsGraphAnsweredBy : {S : Type 0} → Option Engine → ℕ → GraphTask → List (List ℕ) → Result (Answer S) JobFault → Type 0
IsGraphAnsweredBy engine side task = IsAnsweredOn (IsGraphAnswer task) (IsGraphFaultBy engine side task) min_plus

-- how a call ends that writes the answer of a computation over a semiring, by the engine that a job names
module _ {T : Type 0} where
  abbrev pub IsComputationEnd : Job → Computation → Arithmetic → List (List ℕ)
      → Option (List ℕ) → Option (List ℕ) → Bool → Result T JobFault → Type 0
  IsComputationEnd job computation s =
      let engine = engine_of job.engine in
      IsEndOn (IsComputationAnswer engine job.side computation s) (IsComputationFault engine job.side computation s)

  -- that of a task on a graph
  abbrev pub IsGraphEnd : Job → GraphTask → List (List ℕ) → Option (List ℕ) → Option (List ℕ) → Bool → Result T JobFault → Type 0
  IsGraphEnd job task = IsEndOn (IsGraphAnswer task) (IsGraphFaultBy (engine_of job.engine) job.side task)

  -- that of a job
  abbrev pub IsJobEnd : Job → List (List ℕ) → Option (List ℕ) → Option (List ℕ) → Bool → Result T JobFault → Type 0
  IsJobEnd job = IsEndOn (IsJobAnswer job) (IsJobFault job)
