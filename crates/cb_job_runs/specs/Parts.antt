-- Programs that have some of the jobs that a command line can ask for.
use Rattle.std.specs.Prelude.{ℕ, ◌≡◌, ◌⊎◌, List}
use Rattle.cb_command_line.specs.declared.jobs.Job.{Job}
use Rattle.cb_job_ends.specs.declared.faults.JobFault.{JobFault}
use Rattle.cb_job_ends.specs.declared.faults.JobFault.TheVariants.{Absent}

-- By what a program can do, and which of it a job asks for: the answer of a job is the answer of what it asks for.
abbrev pub IsPartAnswer : {X : Type 0} → (Job → X → Type 0) → (X → List (List ℕ) → List ℕ → Type 0) → Job → List (List ℕ) → List ℕ → Type 0
IsPartAnswer {X = X} asks answers job texts answer = (x : X) × asks job x × answers x texts answer

-- Why there is none: as of what it asks for; or the program can't do what it asks for.
abbrev pub IsPartFault : {X : Type 0} → (Job → X → Type 0) → (X → List (List ℕ) → JobFault → Type 0) → Job → List (List ℕ) → JobFault → Type 0
IsPartFault {X = X} asks faults job texts fault =
    ((x : X) × asks job x × faults x texts fault) ⊎ ((fault ≡ Absent) × ((x : X) → ¬ asks job x))
