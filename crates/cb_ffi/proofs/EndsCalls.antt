-- What C gets of the calls that part columns into ranges.
use Rattle.std.proofs.Common.{◌≡◌, ◌≢◌, ℕ, List, length, Result, Ok, Err, ◌∙◌, subst}
use Rattle.std.specs.Prelude.{Vec, IfOk, IfErr}
use Rattle.cb_shares.specs.Shares.{AreEnds}
use Rattle.cb_kept.specs.declared.faults.Fault.{Fault}
use Rattle.cb_kept.specs.Refusals.{code_of}
use Rattle.cb_kept.specs.Answers.{IsAnswer}
use Rattle.cb_ffi.specs.Calls.{IsCall}
use Rattle.cb_ffi.proofs.Calls.{call_of}

-- there are as many ends as C has places
pub as_many_ends : {A : Type 0} (faults : Fault → Type 0) (count cols n : ℕ) (r : Result (Vec ℕ A) Fault) → count ≡ n → IsAnswer faults (λ ends. AreEnds count cols ends.items) r → IfOk r (λ ends. length ends.items ≡ n)
as_many_ends faults count cols n (Ok ends) same a = a.1.as_many ∙ same
as_many_ends faults count cols n (Err f) same a = tt

-- the ends as C gets them
pub ends_call_of : {A : Type 0} (faults : Fault → Type 0) (count cols : ℕ) (r : Result (Vec ℕ A) Fault) (code : ℕ) (old new : List ℕ) → count ≡ length old → IsAnswer faults (λ ends. AreEnds count cols ends.items) r
    → IfOk r (λ ends. (code ≡ 0) × (new ≡ ends.items)) → IfErr r (λ f. (code ≡ code_of f) × (code ≢ 0) × (new ≡ old)) → IsCall faults (AreEnds (length old) cols) code old new
ends_call_of faults count cols (Ok ends) code old new same a h k =
    call_of faults (AreEnds (length old) cols) (Ok ends.items) code old new (a.0, subst (λ m. AreEnds m cols ends.items) same a.1) h tt
ends_call_of faults count cols (Err f) code old new same a h k = call_of faults (AreEnds (length old) cols) (Err f) code old new a tt k
