-- How jobs end by a program that has some of them.
use Rattle.std.proofs.Common.{ℕ, List, Bool, inl}
use Rattle.std.specs.Prelude.{Option, Result, Ok, Err}
use Rattle.cb_command_line.specs.declared.jobs.Job.{Job}
use Rattle.cb_job_ends.specs.WriteEnds.{IsEnd, IsEndOn}
use Rattle.cb_job_ends.specs.declared.faults.JobFault.{JobFault}
use Rattle.cb_job_runs.specs.Parts.{IsPartAnswer, IsPartFault}

module _ {T : Type 0} {P Q : List ℕ → Type 0} {F G : JobFault → Type 0} (texts : (t : List ℕ) → P t → Q t) (faults : (f : JobFault) → F f → G f) (old new : Option (List ℕ)) (failed : Bool) where
  -- an end by some texts and faults is one by any that these are
  end_by : (r : Result T JobFault) → IsEnd P F old new failed r → IsEnd Q G old new failed r
  end_by (Ok x) e = record {
    whole = let w = e.whole in (w.0, texts w.0 w.1, w.2);
    fault = tt;
    nothing = e.nothing;
    output = λ h. let w = e.output h in (w.0, texts w.0 w.1, w.2);
    failed = e.failed;
  }
  end_by (Err f) e = record {
    whole = tt;
    fault = faults f e.fault;
    nothing = e.nothing;
    output = λ h. let w = e.output h in (w.0, texts w.0 w.1, w.2);
    failed = e.failed;
  }

-- a job ends as what it asks for
pub part_end : {X T : Type 0} (asks : Job → X → Type 0) (answers : X → List (List ℕ) → List ℕ → Type 0) (faults : X → List (List ℕ) → JobFault → Type 0)
    (job : Job) (x : X) → asks job x → (texts : List (List ℕ)) (old new : Option (List ℕ)) (failed : Bool) (r : Result T JobFault)
    → IsEndOn (answers x) (faults x) texts old new failed r → IsEndOn (IsPartAnswer asks answers job) (IsPartFault asks faults job) texts old new failed r
part_end asks answers faults job x h texts old new failed r e = end_by (λ t a. (x, h, a)) (λ f b. inl (x, h, b)) old new failed r e
