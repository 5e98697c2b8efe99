-- The text of an answer, and how a task ends before this text is written.
use Rattle.std.specs.Prelude.{ℕ, ◌≢◌, ◌++◌, List, [], ◌∷◌, Result, IfOk, IfErr, string_bytes}
use Rattle.cb_semirings.specs.Arithmetic.{Arithmetic}
use Rattle.cb_market_pages.specs.declared.line_forms.LineForm.TheVariants.{RowAndValue}
use Rattle.cb_market_pages.specs.Text.{text_of, number_line, lines_in}
use Rattle.cb_job_ends.specs.declared.faults.JobFault.{JobFault}
use Rattle.cb_job_ends.specs.declared.faults.JobFault.TheVariants.{Memory, Output}
use Rattle.cb_job_output.specs.declared.answers.Answer.{Answer}
use Rattle.cb_job_output.specs.declared.answers.Answer.TheVariants.{Matrix, Blocks, Column, Counts, Number}

-- the text of an answer over a semiring: that of a matrix, the lines of a column, or a line with a number
abbrev pub text_of_answer : {S : Type 0} → Arithmetic → Answer S → List ℕ
text_of_answer s (Matrix m) = text_of s m
text_of_answer s (Blocks m lines) = text_of s m.matrix ++ string_bytes lines
text_of_answer s (Column column form) = lines_in form column.entries
text_of_answer s (Counts column) = lines_in RowAndValue column.entries
text_of_answer s (Number n) = number_line (n ∷ [])

-- Either there is an answer with a right text, and it would be right that memory or the sink didn't suffice to write it; or a
-- right fault, which isn't one of the sink.
pub record IsAnswered {S : Type 0} (s : Arithmetic) (IsText : List ℕ → Type 0) (IsFault : JobFault → Type 0) (result : Result (Answer S) JobFault) : Type 0 where
  pub answer : IfOk result (λ a. IsText (text_of_answer s a))
  pub unwritten : IfOk result (λ _. IsFault Memory × IsFault Output)
  pub fault : IfErr result IsFault
  pub before : IfErr result (λ f. f ≢ Output)

-- the same of a task on texts, with these answers and these faults
abbrev pub IsAnsweredOn : {S : Type 0} → (List (List ℕ) → List ℕ → Type 0) → (List (List ℕ) → JobFault → Type 0) → Arithmetic → List (List ℕ) → Result (Answer S) JobFault → Type 0
IsAnsweredOn answers faults s texts = IsAnswered s (answers texts) (faults texts)
