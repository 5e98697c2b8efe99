-- Some columns of the result of a call on kept matrices, and where ranges of columns end.
use Rattle.std.specs.Prelude.{◌≡◌, ℕ, ◌≤◌, [], ◌∷◌}
use Rattle.cb_semirings.specs.declared.names.SemiringName.{SemiringName}
use Rattle.cb_matrix.specs.Sparse.{Sparse}
use Rattle.cb_operations.specs.declared.operations.Operation.TheVariants.{Multiply}
use Rattle.cb_shares.specs.Shares.{panel}
use Rattle.cb_kept.specs.declared.faults.Fault.{Fault}
use Rattle.cb_kept.specs.declared.kept.Kept.{Kept}
use Rattle.cb_kept.specs.CallsOver.{common_faults, operation_faults}
use Rattle.cb_kept.specs.Kept.{Keeps}
use Rattle.cb_kept.specs.Refusals.{IsMemory}

-- the range is that of all columns, where there are so many
pub record IsWhole (first end cols : ℕ) : Type 0 where
  pub from_start : first ≡ 0
  pub to_end : cols ≤ end

-- the columns of a range of a matrix, kept over the semiring of a name; the matrix itself, if these are all its columns
pub record KeepsColumns (name : SemiringName) (whole : Sparse) (first end : ℕ) (kept : Kept) : Type 0 where
  pub columns : Keeps name (panel whole first end) kept
  pub all : IsWhole first end whole.shape.cols → Keeps name whole kept

-- ---- where ranges of columns end
-- the fault of two matrices whose columns are divided: their semirings differ
abbrev pub pair_faults : Kept → Kept → Fault → Type 0
pair_faults a b = common_faults (λ s ms. IsMemory) (a ∷ b ∷ [])

-- the faults of two factors, as of their product
abbrev pub factor_faults : Kept → Kept → Fault → Type 0
factor_faults a b = common_faults (operation_faults Multiply) (a ∷ b ∷ [])
