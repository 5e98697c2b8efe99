-- A matrix over a grid and a vector that is spread over its ranks: the slots before and after their product, and its plan.
use Rattle.std.specs.Prelude.{◌≡◌, ◌<◌, ℕ, ◌+◌, ◌*◌, ◌⊎◌, ◌==◌, if◌then◌else◌, List, Some}
use Rattle.cb_semirings.specs.Arithmetic.{Arithmetic}
use Rattle.cb_matrix.specs.Sparse.{Sparse, Extent, IsMatrix}
use Rattle.cb_grid.specs.Blocks.{block_of}
use Rattle.cb_grid.specs.Pieces.{piece_of}
use Rattle.cb_plan.specs.declared.stores.Slot.{Slot}
use Rattle.cb_plan.specs.declared.stores.Slot.TheVariants as slot_is
use Rattle.cb_plan.specs.Plans.{CheckedView}
use Rattle.cb_plan.specs.PlanTables.{cell, IsTable}
use Rattle.cb_plan_operations.specs.VectorPlans.{vector_starts, IsVectorPlan}
use Rattle.cb_plan_slots.specs.declared.DrainFault.{DrainFault}
use Rattle.cb_plan_slots.specs.declared.DrainFault.TheVariants.{Memory, Lost}
use Rattle.cb_plan_slots.specs.Losses.{IsLostOr, IsFirstLoss}

-- what slot k of rank (i, j) has before the product: its block of the matrix, its piece of the vector, or nothing
abbrev pub spread_slot : Arithmetic → ℕ → Sparse → Sparse → ℕ → ℕ → ℕ → Slot Sparse
spread_slot s q a x i j k = if 1 == k then slot_is.Sheet (piece_of s q x j i) else (if 0 == k then slot_is.Sheet (block_of s q a i j) else slot_is.Empty)

-- before the product: rank (i, j) has its block of the matrix a in slot 0, its piece of the vector x in slot 1, and nothing else
pub record HasSpread (s : Arithmetic) (q : ℕ) (a x : Sparse) (stores : List (List (Slot Sparse))) : Type 0 where
  pub some : 0 < q
  pub table : IsTable (q * q) 256 stores
  pub cells : (i j k : ℕ) → i < q → j < q → cell slot_is.Empty stores (i * q + j) k ≡ spread_slot s q a x i j k

-- after the product: rank (i, j) has its block of the matrix a in slot 0 and its piece of the product y in slot 2, unless they
-- are lost
pub record HasProduct (s : Arithmetic) (q : ℕ) (a y : Sparse) (stores : List (List (Slot Sparse))) : Type 0 where
  pub some : 0 < q
  pub table : IsTable (q * q) 256 stores
  pub matrix : IsMatrix s a
  pub column : IsMatrix s y
  pub parts : (i j : ℕ) → i < q → j < q → IsLostOr (Some (block_of s q a i j)) (cell slot_is.Empty stores (i * q + j) 0)
  pub pieces : (i t : ℕ) → i < q → t < q → IsLostOr (Some (piece_of s q y i t)) (cell slot_is.Empty stores (i * q + t) 2)

-- after the product: the ranks have both the matrix and the product, of these shapes
pub record HasBoth (s : Arithmetic) (q : ℕ) (shape made : Extent) (a y : Sparse) (stores : List (List (Slot Sparse))) : Type 0 where
  pub matrix : a.shape ≡ shape
  pub product : y.shape ≡ made
  pub held : HasProduct s q a y stores

-- why the blocks and the pieces can't be taken out: memory was refused, or the first loss in slot 0 or in slot 2
abbrev pub IsSpreadLoss : List (List (Slot Sparse)) → DrainFault → Type 0
IsSpreadLoss stores Memory = Unit {0}
IsSpreadLoss stores (Lost origin) = IsFirstLoss 0 stores origin ⊎ IsFirstLoss 2 stores origin

-- this checked plan multiplies matrices of this shape by vectors
pub record MultipliesVectors (q : ℕ) (shape : Extent) (plan : CheckedView) : Type 0 where
  pub ranks : plan.ranks ≡ q * q
  pub starts : plan.starts ≡ vector_starts q shape
  pub means : IsVectorPlan plan.acts q shape
