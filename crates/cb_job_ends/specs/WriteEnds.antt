-- How a call that writes a text ends.
use Rattle.std.specs.Prelude.{ℕ, ◌≡◌, ◌≢◌, ◌⊎◌, List, ◌↔◌, Bool, true, Option, Result, Ok, Err, OnOk, IfErr, IsErrOf}
use Rattle.cb_job_ends.specs.declared.faults.JobFault.{JobFault}
use Rattle.cb_job_ends.specs.declared.faults.JobFault.TheVariants.{Refused, Memory, Output}
use Rattle.cb_operations.specs.declared.refusals.ComputeFault.{ComputeFault}
use Rattle.cb_operations.specs.declared.refusals.ComputeFault.TheVariants as compute_fault
use Rattle.std.specs.Io.KnownBytes.{Appends, Keeps}
use Rattle.cb_job_ends.specs.Sinks.{AppendsPrefix}

-- the fault of a job whose answer wasn't computed
abbrev pub told_of : ComputeFault → JobFault
told_of (compute_fault.Refused refusal) = Refused refusal
told_of compute_fault.Memory = Memory

-- why an answer wasn't written whole
abbrev pub IsUnwritten : JobFault → Type 0
IsUnwritten fault = (fault ≡ Memory) ⊎ (fault ≡ Output)

-- Either a right text has been written whole, or the fault is a right one. It is about what is known of the sink's bytes,
-- before and after, and about whether the sink has failed.
pub record IsEnd {T : Type 0} (IsText : List ℕ → Type 0) (IsFault : JobFault → Type 0)
    (before after : Option (List ℕ)) (has_failed : Bool) (result : Result T JobFault) : Type 0 where
  pub whole : OnOk result ((t : List ℕ) × IsText t × Appends before after t)
  pub fault : IfErr result IsFault
  -- at any fault but Output nothing has been written
  pub nothing : IfErr result (λ f. f ≢ Output → Keeps before after)
  -- at Output a beginning has been written, and the sink has failed, as it has in no other case
  pub output : IsErrOf result Output → (t : List ℕ) × IsText t × AppendsPrefix before after t
  pub failed : IsErrOf result Output ↔ (has_failed ≡ true)

-- what a call returns for its last put
abbrev pub end_of_put : {T E : Type 0} → Result T E → Result T JobFault
end_of_put (Ok x) = Ok x
end_of_put (Err e) = Err Output

-- the end of a call that writes this text
abbrev pub IsTextEnd : {T : Type 0} → List ℕ → Option (List ℕ) → Option (List ℕ) → Bool → Result T JobFault → Type 0
IsTextEnd text = IsEnd (λ t. t ≡ text) IsUnwritten

-- the end of a call on texts, with these answers and these faults
abbrev pub IsEndOn : {T : Type 0} → (List (List ℕ) → List ℕ → Type 0) → (List (List ℕ) → JobFault → Type 0) → List (List ℕ)
    → Option (List ℕ) → Option (List ℕ) → Bool → Result T JobFault → Type 0
IsEndOn answers faults texts = IsEnd (answers texts) (faults texts)
