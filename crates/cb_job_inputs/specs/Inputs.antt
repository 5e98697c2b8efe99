-- Texts that are read as matrices, and the first that is none.
use Rattle.std.specs.Prelude.{ℕ, ◌≡◌, ◌<◌, List, length, map, zero, suc, Option, Some, None, Result, Ok, Err}
use Rattle.cb_semirings.specs.Arithmetic.{Arithmetic}
use Rattle.cb_semirings.specs.Tables.{plus_times}
use Rattle.cb_matrix.specs.Sparse.{Sparse}
use Rattle.cb_layout.specs.Distributed.{Distributed}
use Rattle.cb_market_lines.specs.Faults as market
use Rattle.cb_market_lines.specs.Reads.{Reads}
use Rattle.cb_operations.specs.Operands.{list_of}
use Rattle.cb_operations.specs.OperationAnswers.{matrix_at}
use Rattle.cb_operations.specs.declared.operations.Operands.{Operands}
use Rattle.cb_operations.specs.declared.operations.Operands.TheVariants.{One, Two, Three}
use Rattle.cb_job_ends.specs.Texts.{text_at}
use Rattle.cb_job_ends.specs.declared.faults.JobFault.{JobFault}
use Rattle.cb_job_ends.specs.declared.faults.JobFault.TheVariants.{Read}

-- the text reads as some matrix
abbrev pub IsMatrixText : Arithmetic → List ℕ → Type 0
IsMatrixText s text = (m : Sparse) × Reads s text m

-- each text before a position reads as the matrix at its position
abbrev pub ReadBelow : Arithmetic → List (List ℕ) → List Sparse → ℕ → Type 0
ReadBelow s texts operands n = (i : ℕ) → i < n → Reads s (text_at texts i) (matrix_at operands i)

-- these are the matrices that the texts read as, one for each text
abbrev pub AreMatrices : Arithmetic → List (List ℕ) → List Sparse → Type 0
AreMatrices s texts operands = (length operands ≡ length texts) × ReadBelow s texts operands (length texts)

-- the texts read as this matrix and this list; a list is read in plus-times
abbrev pub AreWithList : Arithmetic → List (List ℕ) → Sparse → Sparse → Type 0
AreWithList s texts a l = Reads s (text_at texts 0) a × Reads plus_times (text_at texts 1) l

-- the third of three texts reads as this matrix; or there are only two
abbrev pub IsThirdOf : Arithmetic → List (List ℕ) → Option Distributed → Type 0
IsThirdOf t texts (Some m) = (length texts ≡ 3) × Reads t (text_at texts 2) m.matrix
IsThirdOf t texts None = length texts ≡ 2

-- each operand has a property
abbrev pub AreEach : {M : Type 0} → (M → Type 0) → Operands M → Type 0
AreEach P (One a) = P a
AreEach P (Two a b) = P a × P b
AreEach P (Three a b c) = P a × P b × P c

-- operands over a grid, as whole matrices
abbrev pub whole_operands : Operands Distributed → List Sparse
whole_operands operands = map (λ (m : Distributed). m.matrix) (list_of operands)

-- where the first text is read over s and the others over t: how the text at a position is read
abbrev pub arithmetic_at : Arithmetic → Arithmetic → ℕ → Arithmetic
arithmetic_at s t zero = s
arithmetic_at s t (suc i) = t

-- why the text at a position isn't a matrix: its first fault, or want of memory with no fault before it
abbrev pub IsTextFault : Arithmetic → ℕ → List ℕ → JobFault → Type 0
IsTextFault s place text (Read which fault) = (which ≡ place) × market.IsAnswer (market.first_fault s text) fault
IsTextFault s place text _ = ⊥

-- the text at a position was read as a matrix over a grid of this side, or not, for this reason
abbrev pub IsTextRead : Arithmetic → ℕ → ℕ → List ℕ → Result Distributed JobFault → Type 0
IsTextRead s side place text (Ok m) = Reads s text m.matrix × (m.side ≡ side)
IsTextRead s side place text (Err fault) = IsTextFault s place text fault

-- the first text that isn't a matrix, each read in its own way, with its first fault, or want of memory with no fault before it
abbrev pub IsFirstReadFault : (ℕ → Arithmetic) → List (List ℕ) → JobFault → Type 0
IsFirstReadFault by texts (Read which fault) =
    (which < length texts) × ((i : ℕ) → i < which → (m : Sparse) × Reads (by i) (text_at texts i) m)
    × market.IsAnswer (market.first_fault (by which) (text_at texts which)) fault
IsFirstReadFault by texts _ = ⊥

-- the first text that isn't a matrix, with its first fault, or want of memory with no fault before it
abbrev pub IsReadFault : Arithmetic → List (List ℕ) → JobFault → Type 0
IsReadFault s = IsFirstReadFault (λ _. s)
