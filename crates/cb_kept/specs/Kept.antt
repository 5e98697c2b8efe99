-- A kept matrix: the entries of a block, over the semiring of a name.
use Rattle.std.specs.Prelude.{◌≡◌, ◌≢◌, List, [], ◌∷◌, All}
use Rattle.cb_semirings.specs.declared.names.SemiringName.{SemiringName}
use Rattle.cb_semirings.specs.declared.names.SemiringName.TheVariants as name_is
use Rattle.cb_semirings.specs.Names.{arithmetic_of}
use Rattle.cb_matrix.specs.Sparse.{Sparse}
use Rattle.cb_matrix.specs.Operations.{transposed}
use Rattle.cb_kept.specs.declared.faults.Fault.{Fault}
use Rattle.cb_kept.specs.declared.faults.Fault.TheVariants.{Mixed}
use Rattle.cb_kept.specs.declared.kept.Kept.{Kept}
use Rattle.cb_kept.specs.declared.kept.Kept.TheVariants.{PlusTimes, MinPlus, OrAnd, MaxMin, PlusPair, PlusMin, PlusFirst, PlusSecond, MinFirst, MinSecond, MaxFirst, MaxSecond, MaxPlus, MinMax}

-- the semiring of a kept matrix
unfoldable pub semiring_of : Kept → SemiringName
semiring_of (PlusTimes m) = name_is.PlusTimes
semiring_of (MinPlus m) = name_is.MinPlus
semiring_of (OrAnd m) = name_is.OrAnd
semiring_of (MaxMin m) = name_is.MaxMin
semiring_of (PlusPair m) = name_is.PlusPair
semiring_of (PlusMin m) = name_is.PlusMin
semiring_of (PlusFirst m) = name_is.PlusFirst
semiring_of (PlusSecond m) = name_is.PlusSecond
semiring_of (MinFirst m) = name_is.MinFirst
semiring_of (MinSecond m) = name_is.MinSecond
semiring_of (MaxFirst m) = name_is.MaxFirst
semiring_of (MaxSecond m) = name_is.MaxSecond
semiring_of (MaxPlus m) = name_is.MaxPlus
semiring_of (MinMax m) = name_is.MinMax

-- the matrix itself
unfoldable pub matrix_in : Kept → Sparse
matrix_in (PlusTimes m) = m
matrix_in (MinPlus m) = m
matrix_in (OrAnd m) = m
matrix_in (MaxMin m) = m
matrix_in (PlusPair m) = m
matrix_in (PlusMin m) = m
matrix_in (PlusFirst m) = m
matrix_in (PlusSecond m) = m
matrix_in (MinFirst m) = m
matrix_in (MinSecond m) = m
matrix_in (MaxFirst m) = m
matrix_in (MaxSecond m) = m
matrix_in (MaxPlus m) = m
matrix_in (MinMax m) = m

-- the matrix m, kept over the semiring of a name
pub record Keeps (name : SemiringName) (m : Sparse) (kept : Kept) : Type 0 where
  pub semiring : semiring_of kept ≡ name
  pub matrix : matrix_in kept ≡ m

-- the fault of a kept matrix that has to be over a semiring, and isn't
abbrev pub IsMixed : SemiringName → Kept → Fault → Type 0
IsMixed name k f = (f ≡ Mixed) × (semiring_of k ≢ name)

-- the semiring of the first of several
abbrev pub semiring_in : List Kept → SemiringName
semiring_in [] = name_is.PlusTimes
semiring_in (k ∷ ks) = semiring_of k

-- all of them are over one semiring
abbrev pub AreOver : SemiringName → List Kept → Type 0
AreOver name ks = All (λ k. semiring_of k ≡ name) ks

-- the matrix without rows, columns and entries, over plus-times
abbrev pub nothing : Kept
nothing = PlusTimes (record { shape = record { rows = 0; cols = 0 }; entries = [] })

-- a kept matrix is the transpose of another, over its semiring
pub record IsTransposeOf (k turned : Kept) : Type 0 where
  pub semiring : semiring_of turned ≡ semiring_of k
  pub matrix : matrix_in turned ≡ transposed (arithmetic_of (semiring_of k)) (matrix_in k)
