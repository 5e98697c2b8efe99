-- Panels of a kept matrix, each with a range of its columns, that are joined.
use Rattle.std.specs.Prelude.{◌≡◌, Result, OnOk, OnErr}
use Rattle.cb_semirings.specs.Names.{arithmetic_of}
use Rattle.cb_semirings.specs.Arithmetic.{Arithmetic}
use Rattle.cb_matrix.specs.Sparse.{Sparse}
use Rattle.cb_matrix.specs.Values.{empty_matrix}
use Rattle.cb_dcsc.specs.Columns.{with_entries}
use Rattle.cb_shares.specs.Shares.{AreBefore, JoinsPanels}
use Rattle.cb_kept.specs.declared.faults.Fault.{Fault}
use Rattle.cb_kept.specs.declared.faults.Fault.TheVariants.{Order, Shapes, Mixed}
use Rattle.cb_kept.specs.declared.kept.Kept.{Kept}
use Rattle.cb_kept.specs.Kept.{Keeps, semiring_of, matrix_in}
use Rattle.cb_kept.specs.Answers.{IsAnswer}
use Rattle.cb_kept.specs.Refusals.{Unless, IsMemory}

-- the faults of two panels over a semiring: their shapes differ, or a column of the second isn't after all of the first
abbrev pub panel_faults : Sparse → Sparse → Fault → Type 0
panel_faults front back = Unless (back.shape ≡ front.shape) Shapes (Unless (AreBefore front.entries back.entries) Order IsMemory)

-- of two kept ones: their semirings differ
unfoldable pub join_faults : Kept → Kept → Fault → Type 0
join_faults front back = Unless (semiring_of back ≡ semiring_of front) Mixed (panel_faults (matrix_in front) (matrix_in back))

-- The entries of two matrices over a semiring, those of the second after those of the first. If the two are neighbouring panels
-- of a matrix, such as a product under a mask, they are the panel of both ranges.
pub record IsJoined (s : Arithmetic) (front back made : Sparse) : Type 0 where
  pub entries : made ≡ with_entries front back.entries
  pub panels : JoinsPanels s front back made

-- what becomes of two matrices that are joined; at a fault both stay
pub record IsPanelJoin (s : Arithmetic) (front back front' back' : Sparse) (result : Result (Unit {0}) Fault) : Type 0 where
  pub answer : IsAnswer (panel_faults front back) (λ _. IsJoined s front back front') result
  pub rest : OnOk result (back' ≡ empty_matrix back.shape)
  pub front_stays : OnErr result (front' ≡ front)
  pub back_stays : OnErr result (back' ≡ back)

-- the two as one, kept over the semiring of the first
pub record IsKeptJoined (front back made : Kept) : Type 0 where
  pub semiring : semiring_of made ≡ semiring_of front
  pub joined : IsJoined (arithmetic_of (semiring_of front)) (matrix_in front) (matrix_in back) (matrix_in made)

-- what becomes of two kept matrices
pub record IsKeptJoin (front back front' back' : Kept) (result : Result (Unit {0}) Fault) : Type 0 where
  pub answer : IsAnswer (join_faults front back) (λ _. IsKeptJoined front back front') result
  pub rest : OnOk result (Keeps (semiring_of back) (empty_matrix (matrix_in back).shape) back')
  pub front_stays : OnErr result (Keeps (semiring_of front) (matrix_in front) front')
  pub back_stays : OnErr result (Keeps (semiring_of back) (matrix_in back) back')
