-- The slots of the ranks, as contracts see them.
use Rattle.std.specs.Prelude.{◌≡◌, ℕ, Bool, true, false, ◌&&◌, List, [], ◌∷◌, Option, Some, None, get_or, sum_by, count_by}
use Rattle.cb_matrix.specs.Sparse.{Sparse, Extent}
use Rattle.cb_plan.specs.declared.acts.Start.{Start}
use Rattle.cb_plan.specs.declared.stores.Slot.{Slot}
use Rattle.cb_plan.specs.declared.stores.Slot.TheVariants as slot_is
use Rattle.cb_plan.specs.declared.stores.TheConstants.{SLOTS}
use Rattle.cb_plan.specs.Meaning.{State, one, images}
use Rattle.cb_plan.specs.PlanTables.{cell, IsTable}
use Rattle.cb_plan.specs.Checks.{started, same_shape}

module _ {M : Type 0} where
  -- the block in a slot, if there is one
  abbrev pub sheet_of : Slot M → Option M
  sheet_of slot_is.Empty = None
  sheet_of (slot_is.Sheet m) = Some m
  sheet_of (slot_is.Lost origin) = None

  -- the slot that holds this block, or none
  abbrev pub slot_of : Option M → Slot M
  slot_of None = slot_is.Empty
  slot_of (Some m) = slot_is.Sheet m

  abbrev pub is_lost : Slot M → Bool
  is_lost slot_is.Empty = false
  is_lost (slot_is.Sheet m) = false
  is_lost (slot_is.Lost origin) = true

  abbrev pub is_filled : Slot M → Bool
  is_filled slot_is.Empty = false
  is_filled (slot_is.Sheet m) = true
  is_filled (slot_is.Lost origin) = true

  -- the blocks in the slots of one rank
  abbrev pub sheets_in : List (Slot M) → ℕ → Option M
  sheets_in slots n = sheet_of (get_or slots n slot_is.Empty)

  -- the blocks in the slots of all ranks
  abbrev pub state_of : List (List (Slot M)) → State M
  state_of stores r n = sheet_of (cell slot_is.Empty stores r n)

  abbrev pub NoneLost : List (List (Slot M)) → Type 0
  NoneLost stores = (r n : ℕ) → is_lost (cell slot_is.Empty stores r n) ≡ false

-- the shapes in the slots of one rank
abbrev pub shapes_in : List (Slot Sparse) → ℕ → Option Extent
shapes_in slots n = one (λ (m : Sparse). m.shape) (sheets_in slots n)

-- the shapes in the slots of all ranks
abbrev pub shapes_of : List (List (Slot Sparse)) → State Extent
shapes_of stores = images (λ (m : Sparse). m.shape) (state_of stores)

-- whether this shape is found
abbrev pub is_shape : Extent → Option Extent → Bool
is_shape shape None = false
is_shape shape (Some found) = same_shape found shape

-- whether the start's slot holds a block of its shape
abbrev pub stands : List (List (Slot Sparse)) → Start → Bool
stands stores s = is_shape s.shape (shapes_of stores s.rank s.slot)

abbrev pub all_stand : List (List (Slot Sparse)) → List Start → Bool
all_stand stores [] = true
all_stand stores (s ∷ ss) = stands stores s && all_stand stores ss

-- how many slots aren't empty
abbrev pub count_filled : List (List (Slot Sparse)) → ℕ
count_filled stores = sum_by (count_by is_filled) stores

-- a store of 256 slots for each rank: the slots of the starts hold sheets of their shapes, every other slot is empty, and
-- nothing is lost
pub record Fits (ranks : ℕ) (starts : List Start) (stores : List (List (Slot Sparse))) : Type 0 where
  pub table : IsTable ranks SLOTS stores
  pub shapes : shapes_of stores ≡ started starts
  pub none_lost : NoneLost stores
