-- Products of two kept matrices, of which each may be transposed first.
use Rattle.std.specs.Prelude.{◌≡◌, Bool, List, [], ◌∷◌}
use Rattle.cb_semirings.specs.Names.{arithmetic_of}
use Rattle.cb_matrix.specs.Sparse.{Sparse}
use Rattle.cb_operations.specs.OperationAnswers.{matrix_at}
use Rattle.cb_selections.specs.TurnedProducts.{turned_shape, turned_product}
use Rattle.cb_kept.specs.declared.faults.Fault.{Fault}
use Rattle.cb_kept.specs.declared.faults.Fault.TheVariants.{Shapes}
use Rattle.cb_kept.specs.declared.kept.Kept.{Kept}
use Rattle.cb_kept.specs.CallsOver.{common_faults}
use Rattle.cb_kept.specs.Kept.{Keeps, semiring_of, matrix_in}
use Rattle.cb_kept.specs.Refusals.{Unless, IsMemory}

-- once they are turned, the first matrix has as many columns as the second has rows
abbrev pub AgreeTurned : Bool → Bool → List Sparse → Type 0
AgreeTurned left right ms = (turned_shape left (matrix_at ms 0).shape).cols ≡ (turned_shape right (matrix_at ms 1).shape).rows

-- the faults: their semirings differ, or their shapes don't agree
abbrev pub turned_faults : Bool → Bool → Kept → Kept → Fault → Type 0
turned_faults left right a b = common_faults (λ s ms. Unless (AgreeTurned left right ms) Shapes IsMemory) (a ∷ b ∷ [])

-- the product, kept over the semiring of the first
abbrev pub IsKeptTurned : Bool → Bool → Kept → Kept → Kept → Type 0
IsKeptTurned left right a b made =
    Keeps (semiring_of a) (turned_product (arithmetic_of (semiring_of a)) left right (matrix_in a) (matrix_in b)) made
