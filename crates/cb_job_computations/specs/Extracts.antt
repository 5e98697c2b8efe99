-- Rows and columns of the matrix of a text by their numbers, which are listed in other texts.
use Rattle.std.specs.Prelude.{ℕ, ◌≡◌, ◌⊎◌, List, Bool, Option, Some, None, Result, option_map}
use Rattle.cb_semirings.specs.Arithmetic.{Arithmetic}
use Rattle.cb_semirings.specs.Tables.{plus_times}
use Rattle.cb_matrix.specs.Sparse.{Sparse, Extent}
use Rattle.cb_market_lines.specs.Reads.{Reads}
use Rattle.cb_market_pages.specs.Text.{text_of}
use Rattle.cb_operations.specs.declared.refusals.ComputeFault.{ComputeFault}
use Rattle.cb_operations.specs.declared.refusals.ComputeFault.TheVariants.{Refused, Memory}
use Rattle.cb_operations.specs.declared.refusals.Refusal.{Refusal}
use Rattle.cb_operations.specs.declared.refusals.Refusal.TheVariants.{NoRow, NoColumn}
use Rattle.cb_selections.specs.Extracted.{extracted_by}
use Rattle.cb_command_line.specs.declared.lists.Lists.{Lists}
use Rattle.cb_command_line.specs.declared.lists.Lists.TheVariants.{Rows, Columns, Both}
use Rattle.cb_job_ends.specs.Texts.{text_at}
use Rattle.cb_job_ends.specs.WriteEnds.{IsEndOn}
use Rattle.cb_job_ends.specs.declared.faults.JobFault.{JobFault}
use Rattle.cb_job_inputs.specs.Inputs.{AreWithList, IsFirstReadFault, arithmetic_at}
use Rattle.cb_job_inputs.specs.Lists.{IsList, IsListRefusal, numbers_in}
use Rattle.cb_job_output.specs.declared.answers.Answer.{Answer}
use Rattle.cb_job_output.specs.Answers.{IsAnsweredOn}
use Rattle.cb_job_computations.specs.ComputedTexts.{IsFaultBy}

-- the texts read as this matrix and the lists that there are: of its rows, and of its columns
abbrev pub AreWithLists : Lists → Arithmetic → List (List ℕ) → Sparse → Option Sparse → Option Sparse → Type 0
AreWithLists Rows s texts a (Some k) None = AreWithList s texts a k
AreWithLists Columns s texts a None (Some l) = AreWithList s texts a l
AreWithLists Both s texts a (Some k) (Some l) = AreWithList s texts a k × Reads plus_times (text_at texts 2) l
AreWithLists _ s texts a _ _ = ⊥

-- they read as a matrix and lists of which this holds
abbrev pub ReadSo : Lists → Arithmetic → List (List ℕ) → (Sparse → Option Sparse → Option Sparse → Type 0) → Type 0
ReadSo lists s texts P = (a : Sparse) × (k : Option Sparse) × (l : Option Sparse) × AreWithLists lists s texts a k l × P a k l

-- a matrix, if there is one, lists numbers from 1 to n
abbrev pub IsListed : ℕ → Option Sparse → Type 0
IsListed n (Some m) = IsList n m
IsListed n None = Unit {0}

-- two matrices, if there are any, list rows and columns in a shape
abbrev pub AreLists : Extent → Option Sparse → Option Sparse → Type 0
AreLists d k l = IsListed d.rows k × IsListed d.cols l

-- the rows and columns of a matrix that two others list; where there is no list, all of them
abbrev pub extract_of : Arithmetic → Sparse → Option Sparse → Option Sparse → Sparse
extract_of s a k l = extracted_by s (option_map numbers_in k) (option_map numbers_in l) a

-- the text of the rows and columns that the texts list
abbrev pub IsExtractAnswer : Lists → Arithmetic → List (List ℕ) → List ℕ → Type 0
IsExtractAnswer lists s texts answer = ReadSo lists s texts (λ a k l. AreLists a.shape k l × (answer ≡ text_of s (extract_of s a k l)))

-- why a matrix, if there is one, is no such list
abbrev pub IsUnlisted : Refusal → ℕ → Option Sparse → Refusal → Type 0
IsUnlisted missing n (Some m) refusal = IsListRefusal missing n m refusal
IsUnlisted missing n None refusal = ⊥

-- why two matrices don't list rows and columns in a shape: the first lists no rows; else the second lists no columns
abbrev pub AreListsRefused : Extent → Option Sparse → Option Sparse → Refusal → Type 0
AreListsRefused d k l refusal =
    IsUnlisted NoRow d.rows k refusal ⊎ (IsListed d.rows k × IsUnlisted NoColumn d.cols l refusal)

-- why what they list can't be taken: they are no such lists; or they are, and memory was refused
abbrev pub AreListsFault : Extent → Option Sparse → Option Sparse → ComputeFault → Type 0
AreListsFault d k l (Refused refusal) = AreListsRefused d k l refusal
AreListsFault d k l Memory = AreLists d k l

-- why there is no answer, or why it wasn't written: a text isn't a matrix; a list is refused; or neither
abbrev pub IsExtractFault : Lists → Arithmetic → List (List ℕ) → JobFault → Type 0
IsExtractFault lists s texts = IsFaultBy (IsFirstReadFault (arithmetic_at s plus_times) texts)
    (λ refusal. ReadSo lists s texts (λ a k l. AreListsRefused a.shape k l refusal))
    (ReadSo lists s texts (λ a k l. AreLists a.shape k l))

-- how a call ends that makes the answer
abbrev pub IsExtractAnswered : {S : Type 0} → Lists → Arithmetic → List (List ℕ) → Result (Answer S) JobFault → Type 0
IsExtractAnswered lists s = IsAnsweredOn (IsExtractAnswer lists s) (IsExtractFault lists s) s

-- how a call ends that writes it
unfoldable pub IsExtractEnd : {T : Type 0} → Lists → Arithmetic → List (List ℕ) → Option (List ℕ) → Option (List ℕ) → Bool → Result T JobFault → Type 0
IsExtractEnd lists s = IsEndOn (IsExtractAnswer lists s) (IsExtractFault lists s)
