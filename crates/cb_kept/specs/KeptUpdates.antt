-- A kept matrix updated by another one, under a mask.
use Rattle.std.specs.Prelude.{◌≡◌, ℕ, nat_lt, ◌/◌, ◌%◌, ◌==◌, cond, List, [], ◌∷◌, Option, Some, None, IfSome}
use Rattle.cb_semirings.specs.Arithmetic.{Arithmetic}
use Rattle.cb_matrix.specs.Sparse.{Sparse}
use Rattle.cb_operations.specs.OperationAnswers.{matrix_at}
use Rattle.cb_selections.specs.declared.updates.WriteBack.{WriteBack}
use Rattle.cb_selections.specs.Updates.{updated}
use Rattle.cb_kept.specs.declared.faults.Fault.{Fault}
use Rattle.cb_kept.specs.declared.faults.Fault.TheVariants.{Shapes}
use Rattle.cb_kept.specs.declared.kept.Kept.{Kept}
use Rattle.cb_kept.specs.Refusals.{Unless, IsMemory}

-- the update of a number, 0 to 7: 1 if it accumulates, 2 if the mask is complemented and 4 if it replaces, added up
abbrev pub write_back_of : ℕ → Option WriteBack
write_back_of n =
    cond (nat_lt n 8) (Some (record { accumulate = (n % 2) == 1; complement = ((n / 2) % 2) == 1; replace = (n / 4) == 1 })) None

-- ---- over a semiring: of an old matrix, a new one, and a mask if there is one
-- the mask among them
abbrev pub mask_in : List Sparse → Option Sparse
mask_in (old ∷ new ∷ mask ∷ ms) = Some mask
mask_in _ = None

-- they have one shape
abbrev pub HaveOneShape : List Sparse → Type 0
HaveOneShape ms = ((matrix_at ms 1).shape ≡ (matrix_at ms 0).shape) × IfSome (mask_in ms) (λ (m : Sparse). m.shape ≡ (matrix_at ms 0).shape)

-- the faults of an update: their shapes differ
abbrev pub shape_faults : Arithmetic → List Sparse → Fault → Type 0
shape_faults s ms = Unless (HaveOneShape ms) Shapes IsMemory

-- the first, updated by the second
abbrev pub update_of : WriteBack → Arithmetic → List Sparse → Sparse
update_of how s ms = updated s how (mask_in ms) (matrix_at ms 0) (matrix_at ms 1)

-- ---- of kept matrices
-- the old matrix, the new one and the mask, if there is one, in order
abbrev pub operands_of : Kept → Kept → Option Kept → List Kept
operands_of old new None = old ∷ new ∷ []
operands_of old new (Some mask) = old ∷ new ∷ mask ∷ []
