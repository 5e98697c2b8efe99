-- The jobs of the program, their answers, and the reasons why there is none.
use Rattle.std.specs.Prelude.{ℕ, ◌≡◌, List, true}
use Rattle.cb_semirings.specs.Names.{arithmetic_of}
use Rattle.cb_command_line.specs.Jobs.{is_distributive}
use Rattle.cb_command_line.specs.declared.jobs.EngineName.TheVariants.{Plain}
use Rattle.cb_command_line.specs.declared.jobs.Job.{Job}
use Rattle.cb_command_line.specs.declared.tasks.Task.{Task}
use Rattle.cb_command_line.specs.declared.tasks.Task.TheVariants.{Compute, Extract, Graph}
use Rattle.cb_job_computations.specs.ComputedTexts.{IsAnswerOver, IsFaultOver}
use Rattle.cb_job_computations.specs.Extracts.{IsExtractAnswer, IsExtractFault}
use Rattle.cb_job_ends.specs.declared.faults.JobFault.{JobFault}
use Rattle.cb_job_runs.specs.Parts.{IsPartAnswer, IsPartFault}

-- what the program can do: a task on matrices over a distributive semiring
abbrev pub CanDo : Task → Type 0
CanDo (Compute computation semiring) = is_distributive semiring ≡ true
CanDo (Extract lists semiring) = is_distributive semiring ≡ true
CanDo (Graph task) = ⊥

-- a job asks for it, without ranks
abbrev pub Asks : Job → Task → Type 0
Asks job task = (job.engine ≡ Plain) × (job.task ≡ task) × CanDo task

-- its answer
abbrev pub IsTaskAnswer : Task → List (List ℕ) → List ℕ → Type 0
IsTaskAnswer (Compute computation semiring) = IsAnswerOver computation (arithmetic_of semiring)
IsTaskAnswer (Extract lists semiring) = IsExtractAnswer lists (arithmetic_of semiring)
IsTaskAnswer (Graph task) = λ texts answer. ⊥

-- why it has none, or why the answer wasn't written
abbrev pub IsTaskFault : Task → List (List ℕ) → JobFault → Type 0
IsTaskFault (Compute computation semiring) = IsFaultOver computation (arithmetic_of semiring)
IsTaskFault (Extract lists semiring) = IsExtractFault lists (arithmetic_of semiring)
IsTaskFault (Graph task) = λ texts fault. ⊥

-- the answer of a job
abbrev pub IsJobAnswer : Job → List (List ℕ) → List ℕ → Type 0
IsJobAnswer = IsPartAnswer Asks IsTaskAnswer

-- why it has no answer, or why the answer wasn't written
abbrev pub IsJobFault : Job → List (List ℕ) → JobFault → Type 0
IsJobFault = IsPartFault Asks IsTaskFault
