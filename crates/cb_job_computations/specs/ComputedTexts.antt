-- What is computed of the matrices of texts, and why there may be no answer.
use Rattle.std.specs.Prelude.{ℕ, ◌≡◌, List, Bool, Option, Result}
use Rattle.cb_semirings.specs.Arithmetic.{Arithmetic}
use Rattle.cb_matrix.specs.Sparse.{Sparse}
use Rattle.cb_market_pages.specs.Text.{text_of}
use Rattle.cb_operations.specs.declared.computations.Computation.{Computation}
use Rattle.cb_operations.specs.declared.refusals.Refusal.{Refusal}
use Rattle.cb_operations.specs.Computations.{Suits, IsRefusal, answer_of}
use Rattle.cb_operations.specs.OperationAnswers.{shapes_in}
use Rattle.cb_job_ends.specs.declared.faults.JobFault.{JobFault}
use Rattle.cb_job_ends.specs.declared.faults.JobFault.TheVariants.{Read, Refused, Memory, Output}
use Rattle.cb_job_inputs.specs.Inputs.{AreMatrices, IsReadFault}
use Rattle.cb_job_ends.specs.WriteEnds.{IsEndOn}
use Rattle.cb_job_output.specs.declared.answers.Answer.{Answer}
use Rattle.cb_job_output.specs.Answers.{IsAnsweredOn}

-- the texts read as matrices of which it can be computed over a semiring, and the answer is the text of the result
abbrev pub IsAnswerOver : Computation → Arithmetic → List (List ℕ) → List ℕ → Type 0
IsAnswerOver computation s texts answer =
    (ms : List Sparse) × AreMatrices s texts ms × Suits computation s (shapes_in ms) × (answer ≡ text_of s (answer_of computation s ms))

-- Why there is no answer, or why it wasn't written, in this order: a text isn't a matrix; what the texts read as is refused; or
-- it is right, and memory was refused, or the sink failed.
abbrev pub IsFaultBy : (JobFault → Type 0) → (Refusal → Type 0) → Type 0 → JobFault → Type 0
IsFaultBy unread refused right (Read which fault) = unread (Read which fault)
IsFaultBy unread refused right (Refused refusal) = refused refusal
IsFaultBy unread refused right Memory = right
IsFaultBy unread refused right Output = right
IsFaultBy unread refused right _ = ⊥

-- these reasons for a computation over a semiring
abbrev pub IsFaultOver : Computation → Arithmetic → List (List ℕ) → JobFault → Type 0
IsFaultOver computation s texts = IsFaultBy (IsReadFault s texts)
    (λ refusal. (ms : List Sparse) × AreMatrices s texts ms × IsRefusal computation s (shapes_in ms) refusal)
    ((ms : List Sparse) × AreMatrices s texts ms × Suits computation s (shapes_in ms))

-- how a call ends that computes the answer over a semiring
abbrev pub IsAnsweredOver : {S : Type 0} → Computation → Arithmetic → List (List ℕ) → Result (Answer S) JobFault → Type 0
IsAnsweredOver computation s = IsAnsweredOn (IsAnswerOver computation s) (IsFaultOver computation s) s

-- how a call ends that writes it
unfoldable pub IsEndOver : {T : Type 0} → Computation → Arithmetic → List (List ℕ) → Option (List ℕ) → Option (List ℕ) → Bool → Result T JobFault → Type 0
IsEndOver computation s = IsEndOn (IsAnswerOver computation s) (IsFaultOver computation s)
