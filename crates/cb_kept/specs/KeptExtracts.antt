-- Rows and columns of a kept matrix by their numbers.
use Rattle.std.specs.Prelude.{ℕ, List, Option, Result}
use Rattle.cb_semirings.specs.Arithmetic.{Arithmetic}
use Rattle.cb_semirings.specs.Names.{arithmetic_of}
use Rattle.cb_semirings.specs.declared.names.SemiringName.{SemiringName}
use Rattle.cb_matrix.specs.Sparse.{Sparse, Extent}
use Rattle.cb_selections.specs.Extracted.{AreBelow, AreFew, extracted_by}
use Rattle.cb_kept.specs.declared.faults.Fault.{Fault}
use Rattle.cb_kept.specs.declared.faults.Fault.TheVariants.{TooLarge, Place}
use Rattle.cb_kept.specs.declared.kept.Kept.{Kept}
use Rattle.cb_kept.specs.Answers.{IsAnswer}
use Rattle.cb_kept.specs.Kept.{semiring_of, matrix_in}
use Rattle.cb_kept.specs.KeptShares.{KeepsColumns}
use Rattle.cb_kept.specs.Refusals.{Unless, IsMemory}

-- the faults: more numbers than a matrix can have rows or columns, or one that the matrix doesn't have
unfoldable pub number_faults : Option (List ℕ) → Option (List ℕ) → Extent → Fault → Type 0
number_faults rows cols shape =
    Unless (AreFew rows × AreFew cols) TooLarge
    (Unless (AreBelow shape.rows rows × AreBelow shape.cols cols) Place IsMemory)

-- the columns of a range of those of a kept matrix
abbrev pub IsKeptExtract : Option (List ℕ) → Option (List ℕ) → ℕ → ℕ → Kept → Kept → Type 0
IsKeptExtract rows cols first end k made =
    KeepsColumns (semiring_of k) (extracted_by (arithmetic_of (semiring_of k)) rows cols (matrix_in k)) first end made

-- of those of a matrix, kept over a semiring, or a fault
abbrev pub IsExtractOf : SemiringName → Arithmetic → Option (List ℕ) → Option (List ℕ) → ℕ → ℕ → Sparse → Result Kept Fault → Type 0
IsExtractOf name s rows cols first end m = IsAnswer (number_faults rows cols m.shape) (KeepsColumns name (extracted_by s rows cols m) first end)

-- the same of a kept matrix
abbrev pub IsExtractAnswer : Option (List ℕ) → Option (List ℕ) → ℕ → ℕ → Kept → Result Kept Fault → Type 0
IsExtractAnswer rows cols first end k = IsExtractOf (semiring_of k) (arithmetic_of (semiring_of k)) rows cols first end (matrix_in k)
