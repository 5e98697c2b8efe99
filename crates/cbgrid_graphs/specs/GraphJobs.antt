-- The jobs of the program, their answers, and the reasons why there is none.
use Rattle.std.specs.Prelude.{ℕ, ◌≡◌, List}
use Rattle.cb_command_line.specs.declared.jobs.EngineName.TheVariants.{Plain}
use Rattle.cb_command_line.specs.declared.jobs.Job.{Job}
use Rattle.cb_operations.specs.declared.graphs.GraphTask.{GraphTask}
use Rattle.cb_command_line.specs.declared.tasks.Task.TheVariants.{Graph}
use Rattle.cb_job_ends.specs.declared.faults.JobFault.{JobFault}
use Rattle.cb_job_graphs.specs.GraphTasks.{IsGraphAnswer, IsGraphFault}
use Rattle.cb_job_runs.specs.Parts.{IsPartAnswer, IsPartFault}

-- a job asks for a task on a graph, without ranks
abbrev pub Asks : Job → GraphTask → Type 0
Asks job task = (job.engine ≡ Plain) × (job.task ≡ Graph task)

-- the answer of a job
abbrev pub IsJobAnswer : Job → List (List ℕ) → List ℕ → Type 0
IsJobAnswer = IsPartAnswer Asks IsGraphAnswer

-- why it has no answer, or why the answer wasn't written
abbrev pub IsJobFault : Job → List (List ℕ) → JobFault → Type 0
IsJobFault = IsPartFault Asks IsGraphFault
