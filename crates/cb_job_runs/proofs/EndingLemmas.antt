-- What has been written at the end of a run.
use Rattle.std.proofs.Common.{◌≡◌, ℕ, List, [], Option, Some, None, false, true, inl, inr, refl, sym, subst}
use Rattle.std.specs.Prelude.{Bool, Result, Ok, Err, OnOk, OnErr, String}
use Rattle.std.specs.declared.alloc.Global.{Global}
use Rattle.std.specs.Io.KnownBytes.{Appends, Keeps}
use Rattle.cb_job_ends.specs.Sinks.{AppendsPrefix}
use Rattle.cb_job_files.specs.Files.{IsUnloaded}
use Rattle.cb_job_runs.specs.Statuses.{status_code}
use Rattle.cb_job_runs.specs.Endings.{IsEnding, IsJobEnding, IsPrinted, IsRun, IsTold, IsUsageEnding, ending_status, names_of, unloaded_ending}
use Rattle.cb_command_line.specs.declared.jobs.Job.{Job}
use Rattle.cb_command_line.specs.declared.jobs.UsageFault.{UsageFault}
use Rattle.cb_job_runs.specs.declared.endings.Ending.{Ending}
use Rattle.cb_job_runs.specs.declared.endings.Status.{Status}
use Rattle.cb_job_ends.specs.declared.faults.JobFault.{JobFault}
use Rattle.cb_job_files.specs.declared.files.LoadFault.{LoadFault}
use Rattle.cb_job_files.specs.declared.files.LoadFault.TheVariants.{Unreadable, Memory}

-- what a put that may have failed has printed
pub printed : {T E : Type 0} (r : Result T E) (old new : Option (List ℕ)) (has_failed : Bool) (text : List ℕ) → OnOk r (Appends old new text) → OnOk r (has_failed ≡ false)
    → OnErr r (AppendsPrefix old new text) → OnErr r (has_failed ≡ true) → IsPrinted old new has_failed text
printed (Ok x) old new has_failed text whole works prefix fails = inl (whole, works)
printed (Err e) old new has_failed text whole works prefix fails = inr (prefix, fails)

-- nothing has been written
keeps_same : (o : Option (List ℕ)) → Keeps o o
keeps_same None = tt
keeps_same (Some x) = refl

module _ (answers : Job → List (List ℕ) → List ℕ → Type 0) (faults : Job → List (List ℕ) → JobFault → Type 0) (holds : List ℕ → List ℕ → Type 0) (refuses : List ℕ → Type 0) where
  -- a job whose files can't be loaded
  pub job_unloaded : (job : Job) (o : Option (List ℕ)) (fault : LoadFault) → IsUnloaded holds refuses job.files.items fault → IsJobEnding answers faults holds refuses job o o (unloaded_ending fault)
  job_unloaded job o (Unreadable which) h = (h, keeps_same o)
  job_unloaded job o Memory h = keeps_same o

  module _ (asked : Result Job UsageFault) (out out_after err err_after : Option (List ℕ)) (has_failed : Bool) (ending : Ending) (status : Status) where
    -- a run for a job
    pub run_of_job : (job : Job) (names : List (String Global)) → asked ≡ Ok job → names ≡ job.files.items → IsJobEnding answers faults holds refuses job out out_after ending
        → IsTold names ending err err_after has_failed → status_code status ≡ ending_status ending
        → IsRun (IsEnding answers faults holds refuses asked out out_after) (names_of asked) err err_after has_failed status
    run_of_job job names is named ends message code =
        subst (λ a. IsRun (IsEnding answers faults holds refuses a out out_after) (names_of a) err err_after has_failed status) (sym is) (record {
          ending = ending;
          is = ends;
          message = subst (λ n. IsTold n ending err err_after has_failed) named message;
          status_is = code;
        })

    -- a run for a command line that isn't a job
    pub run_of_usage : (fault : UsageFault) → asked ≡ Err fault → IsUsageEnding fault out out_after ending
        → IsTold {A = Global} [] ending err err_after has_failed → status_code status ≡ ending_status ending
        → IsRun (IsEnding answers faults holds refuses asked out out_after) (names_of asked) err err_after has_failed status
    run_of_usage fault is ends message code =
        subst (λ a. IsRun (IsEnding answers faults holds refuses a out out_after) (names_of a) err err_after has_failed status) (sym is) (record {
          ending = ending;
          is = ends;
          message = message;
          status_is = code;
        })
