-- How a run of the program ends: what goes to standard output and to standard error, and the exit status.
use Rattle.std.specs.Prelude.{◌≡◌, ◌≢◌, ◌⊎◌, ℕ, List, [], Bool, true, false, codes, Option, Result, Ok, Err, String, string_bytes}
use Rattle.std.specs.declared.alloc.Global.{Global}
use Rattle.std.specs.Io.KnownBytes.{Appends, Keeps}
use Rattle.cb_job_ends.specs.Sinks.{AppendsPrefix}
use Rattle.cb_job_files.specs.Files.{AreTexts, IsUnloaded, name_at}
use Rattle.cb_job_runs.specs.FaultLines.{line_of, unreadable_line_of}
use Rattle.cb_job_runs.specs.Statuses.{status_of, status_code}
use Rattle.cb_command_line.specs.declared.jobs.Job.{Job}
use Rattle.cb_command_line.specs.declared.jobs.UsageFault.{UsageFault}
use Rattle.cb_command_line.specs.declared.jobs.UsageFault.TheVariants as asked_is
use Rattle.cb_job_files.specs.declared.files.LoadFault.{LoadFault}
use Rattle.cb_job_files.specs.declared.files.LoadFault.TheVariants as load_is
use Rattle.cb_job_ends.specs.declared.faults.JobFault.{JobFault}
use Rattle.cb_job_ends.specs.declared.faults.JobFault.TheVariants as job_is
use Rattle.cb_job_runs.specs.declared.endings.Ending.{Ending}
use Rattle.cb_job_runs.specs.declared.endings.Status.{Status}
use Rattle.cb_job_runs.specs.declared.endings.Ending.TheVariants.{Done, Usage, Memory, Unreadable, Fault}

-- the status of each ending
abbrev pub ending_status : Ending → ℕ
ending_status Done = 0
ending_status (Usage text) = 2
ending_status Memory = 6
ending_status (Unreadable which) = 3
ending_status (Fault fault) = status_of fault

-- the text of each ending for standard error, for a job with these files
abbrev pub message_of : {A : Type 0} → List (String A) → Ending → List ℕ
message_of names Done = []
message_of names (Usage text) = string_bytes text
message_of names Memory = codes "cbgrid: out of memory\n"
message_of names (Unreadable which) = unreadable_line_of (name_at names which)
message_of names (Fault fault) = line_of names fault

-- A text is printed whole; or the stream has failed, and a beginning is printed. It is about what is known of the stream's bytes,
-- before and after, and about whether it has failed.
abbrev pub IsPrinted : Option (List ℕ) → Option (List ℕ) → Bool → List ℕ → Type 0
IsPrinted old new has_failed text = (Appends old new text × (has_failed ≡ false)) ⊎ (AppendsPrefix old new text × (has_failed ≡ true))

-- The text of an ending is printed; or, if memory for it is refused, the line that memory was.
abbrev pub IsTold : {A : Type 0} → List (String A) → Ending → Option (List ℕ) → Option (List ℕ) → Bool → Type 0
IsTold names ending old new has_failed = IsPrinted old new has_failed (message_of names ending) ⊎ IsPrinted old new has_failed (codes "cbgrid: out of memory\n")

-- the ending of a job whose files can't all be loaded
abbrev pub unloaded_ending : LoadFault → Ending
unloaded_ending (load_is.Unreadable which) = Unreadable which
unloaded_ending load_is.Memory = Memory

-- How a job over its files ends, and what it has written, by its answers and its faults for the texts of the files. If it
-- is done: a whole answer. If a file can't be read, or memory for the list of texts is refused: nothing. At a fault:
-- nothing, or at Output a beginning of an answer.
abbrev pub IsJobEnding : (Job → List (List ℕ) → List ℕ → Type 0) → (Job → List (List ℕ) → JobFault → Type 0)
    → (List ℕ → List ℕ → Type 0) → (List ℕ → Type 0) → Job → Option (List ℕ) → Option (List ℕ) → Ending → Type 0
IsJobEnding answers faults holds refuses job old new Done =
    (texts : List (List ℕ)) × AreTexts holds job.files.items texts × ((t : List ℕ) × answers job texts t × Appends old new t)
IsJobEnding answers faults holds refuses job old new (Usage text) = ⊥
IsJobEnding answers faults holds refuses job old new Memory = Keeps old new
IsJobEnding answers faults holds refuses job old new (Unreadable which) =
    IsUnloaded holds refuses job.files.items (load_is.Unreadable which) × Keeps old new
IsJobEnding answers faults holds refuses job old new (Fault fault) =
    (texts : List (List ℕ)) × AreTexts holds job.files.items texts × faults job texts fault
    × (fault ≢ job_is.Output → Keeps old new)
    × (fault ≡ job_is.Output → (t : List ℕ) × answers job texts t × AppendsPrefix old new t)

-- How a command line ends that isn't a job. Help is written whole, or at Output a beginning of it; else nothing is written.
abbrev pub IsUsageEnding : UsageFault → Option (List ℕ) → Option (List ℕ) → Ending → Type 0
IsUsageEnding (asked_is.Help text) old new Done = Appends old new (string_bytes text)
IsUsageEnding (asked_is.Help text) old new (Fault job_is.Output) = AppendsPrefix old new (string_bytes text)
IsUsageEnding (asked_is.Usage text) old new (Usage message) = (message ≡ text) × Keeps old new
IsUsageEnding asked_is.Memory old new Memory = Keeps old new
IsUsageEnding _ old new _ = ⊥

-- how a run ends, by its command line
abbrev pub IsEnding : (Job → List (List ℕ) → List ℕ → Type 0) → (Job → List (List ℕ) → JobFault → Type 0)
    → (List ℕ → List ℕ → Type 0) → (List ℕ → Type 0) → Result Job UsageFault → Option (List ℕ) → Option (List ℕ) → Ending → Type 0
IsEnding answers faults holds refuses (Ok job) old new ending = IsJobEnding answers faults holds refuses job old new ending
IsEnding answers faults holds refuses (Err fault) old new ending = IsUsageEnding fault old new ending

-- the names of the files of a command line
abbrev pub names_of : Result Job UsageFault → List (String Global)
names_of (Ok job) = job.files.items
names_of (Err fault) = []

-- A run ends in one of these ways, for a command line that names these files: by what is known of the bytes on standard
-- error, before and after, by whether it has failed, and by its status. The status is that of the ending, whatever was printed.
pub record IsRun (ends : Ending → Type 0) (names : List (String Global)) (err err_after : Option (List ℕ)) (has_failed : Bool) (status : Status) : Type 0 where
  pub ending : Ending
  pub is : ends ending
  pub message : IsTold names ending err err_after has_failed
  pub status_is : status_code status ≡ ending_status ending
