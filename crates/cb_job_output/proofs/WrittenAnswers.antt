-- How a task ends whose answer is written, or that has none.
use Rattle.std.proofs.Common.{◌≡◌, ℕ, List, Bool, false, refl, sym, subst, ⊎_elim}
use Rattle.std.specs.Prelude.{Option, Some, None, Result, Ok, Err}
use Rattle.std.specs.Io.KnownBytes.{Keeps}
use Rattle.cb_semirings.specs.Arithmetic.{Arithmetic}
use Rattle.cb_job_ends.specs.declared.faults.JobFault.{JobFault}
use Rattle.cb_job_ends.specs.declared.faults.JobFault.TheVariants.{Memory, Output}
use Rattle.cb_job_ends.specs.WriteEnds.{IsEnd, IsTextEnd, IsUnwritten}
use Rattle.cb_job_output.specs.declared.answers.Answer.{Answer}
use Rattle.cb_job_output.specs.Answers.{IsAnswered, text_of_answer}

-- a fault of writing is one of the task, if it is right that the answer can't be written
unwritten_fault : (IsFault : JobFault → Type 0) → IsFault Memory × IsFault Output → (f : JobFault) → IsUnwritten f → IsFault f
unwritten_fault IsFault h f w = ⊎_elim (λ (e : f ≡ Memory). subst IsFault (sym e) h.0) (λ (e : f ≡ Output). subst IsFault (sym e) h.1) w

keeps_itself : (bytes : Option (List ℕ)) → Keeps bytes bytes
keeps_itself None = tt
keeps_itself (Some bytes) = refl

err_of : {T : Type 0} (r : Result T JobFault) (f g : JobFault) → r ≡ Err f → r ≡ Err g → f ≡ g
err_of r f g e h = cc

module _ {S T : Type 0} (s : Arithmetic) (IsText : List ℕ → Type 0) (IsFault : JobFault → Type 0) where
  -- the answer was written, or a beginning of it
  pub written : (old new : Option (List ℕ)) (failed : Bool) (a : Answer S) (put : Result T JobFault) → IsAnswered s IsText IsFault (Ok a)
      → IsTextEnd (text_of_answer s a) old new failed put → IsEnd IsText IsFault old new failed put
  written old new failed a (Ok x) is end = record {
    whole = let w = end.whole in (w.0, subst IsText (sym w.1) is.answer, w.2);
    fault = tt;
    nothing = tt;
    output = λ e. cc;
    failed = end.failed;
  }
  written old new failed a (Err f) is end = record {
    whole = tt;
    fault = unwritten_fault IsFault is.unwritten f end.fault;
    nothing = end.nothing;
    output = λ e. let w = end.output e in (w.0, subst IsText (sym w.1) is.answer, w.2);
    failed = end.failed;
  }

  -- there is no answer, and nothing was written
  pub unanswered : (old : Option (List ℕ)) (failed : Bool) (f : JobFault) → failed ≡ false → IsAnswered {S = S} s IsText IsFault (Err f) → IsEnd {T = T} IsText IsFault old old failed (Err f)
  unanswered old failed f works is = record {
    whole = tt;
    fault = is.fault;
    nothing = λ _. keeps_itself old;
    output = λ e. absurd (is.before (err_of {T = T} (Err f) f Output refl e));
    failed = (λ e. absurd (is.before (err_of {T = T} (Err f) f Output refl e)), λ t. absurd cc);
  }
