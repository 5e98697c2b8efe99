-- The factors of products, in the slots of one rank.
use Rattle.std.specs.Prelude.{◌≡◌, ℕ, ◌<◌, List, Some, All, AllPairs}
use Rattle.std.specs.List.{AllZip}
use Rattle.cb_semirings.specs.Arithmetic.{Arithmetic}
use Rattle.cb_matrix.specs.Sparse.{Sparse, Extent}
use Rattle.cb_plan.specs.declared.stores.Slot.{Slot}
use Rattle.cb_plan.specs.declared.stores.TheConstants.{SLOTS}
use Rattle.cb_plan.specs.Stores.{sheets_in}
use Rattle.cb_product.specs.InColumns.{only_columns}
use Rattle.cb_product.specs.SeveralProducts.{AreMatrices, MakeShape, plus_products}

-- two slots hold these blocks
abbrev pub HoldPair : List (Slot Sparse) → ℕ × ℕ → Sparse × Sparse → Type 0
HoldPair slots p pair = (sheets_in slots p.0 ≡ Some pair.0) × (sheets_in slots p.1 ≡ Some pair.1)

-- two slots hold blocks that have a product of this shape
pub record HoldProduct (slots : List (Slot Sparse)) (shape : Extent) (p : ℕ × ℕ) : Type 0 where
  pub exist : (p.0 < SLOTS) × (p.1 < SLOTS)
  pub pair : Sparse × Sparse
  pub held : HoldPair slots p pair
  pub makes : MakeShape shape pair

-- a matrix is a sum plus the products of pairs of slots, one after another
abbrev pub IsSumWith : Arithmetic → List (Slot Sparse) → Sparse → List (ℕ × ℕ) → Sparse → Type 0
IsSumWith s slots sum products m = (pairs : List (Sparse × Sparse)) × AllZip (HoldPair slots) products pairs × (m ≡ plus_products s sum pairs)

-- products of slots that can be added to a sum, and columns of its shape, ascending
pub record AreToBeMade (slots : List (Slot Sparse)) (sum : Sparse) (products : List (ℕ × ℕ)) (columns : List ℕ) : Type 0 where
  pub hold : All (HoldProduct slots sum.shape) products
  pub ascending : AllPairs (λ c d. c < d) columns
  pub within : All (λ c. c < sum.shape.cols) columns

-- a matrix has these columns of a sum plus the products of pairs of slots, all of which are matrices
pub record HasColumnsOf (s : Arithmetic) (slots : List (Slot Sparse)) (sum : Sparse) (products : List (ℕ × ℕ)) (columns : List ℕ) (m : Sparse) : Type 0 where
  pub made : (pairs : List (Sparse × Sparse)) → AllZip (HoldPair slots) products pairs → m ≡ only_columns columns (plus_products s sum pairs)
  pub matrices : (pairs : List (Sparse × Sparse)) → AllZip (HoldPair slots) products pairs → All (AreMatrices s) pairs
