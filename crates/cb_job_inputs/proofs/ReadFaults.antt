-- The first text that isn't a matrix, where each is read over a semiring of its own.
use Rattle.std.proofs.Common.{◌≡◌, ℕ, zero, suc, ◌<◌, List, length, refl, sym, subst}
use Rattle.cb_semirings.specs.Arithmetic.{Arithmetic}
use Rattle.cb_job_ends.specs.Texts.{text_at}
use Rattle.cb_job_inputs.specs.Inputs.{IsFirstReadFault, IsMatrixText, IsTextFault, arithmetic_at}
use Rattle.cb_job_ends.specs.declared.faults.JobFault.{JobFault}
use Rattle.cb_job_ends.specs.declared.faults.JobFault.TheVariants.{Read}

same_at : (s : Arithmetic) (i : ℕ) → arithmetic_at s s i ≡ s
same_at s zero = refl
same_at s (suc i) = refl

-- over one semiring all texts are read alike
pub same_by : (s : Arithmetic) → arithmetic_at s s ≡ (λ (i : ℕ). s)
same_by s = λ k i. same_at s i k

-- the fault of the text at a position, if those before it are matrices
pub fault_at : (by : ℕ → Arithmetic) (ts : List (List ℕ)) (n : ℕ) → n < length ts → ((i : ℕ) → i < n → IsMatrixText (by i) (text_at ts i))
    → (t : List ℕ) → text_at ts n ≡ t → (f : JobFault) → IsTextFault (by n) n t f → IsFirstReadFault by ts f
fault_at by ts n l before t e (Read which fault) h = subst (λ k. IsFirstReadFault by ts (Read k fault)) (sym h.0) (l, before, rw e h.1)
fault_at by ts n l before t e _ h = absurd h
