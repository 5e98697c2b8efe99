-- What the slots of the ranks hold after a plan in which ranks may have been refused memory: a block that couldn't be made
-- is lost, and so is everything that would be made from it.
use Rattle.std.specs.Prelude.{◌≡◌, ◌≢◌, ◌⊎◌, ℕ, ◌<◌, true, List, length, Option, Some, None, IsSome}
use Rattle.cb_matrix.specs.Sparse.{Sparse}
use Rattle.cb_plan.specs.declared.stores.Slot.{Slot}
use Rattle.cb_plan.specs.declared.stores.Slot.TheVariants as slot_is
use Rattle.cb_plan.specs.Meaning.{State}
use Rattle.cb_plan.specs.Stores.{state_of, is_filled}
use Rattle.cb_plan.specs.declared.stores.TheConstants.{SLOTS}
use Rattle.cb_plan.specs.PlanTables.{cell, IsTable}
use Rattle.cb_plan_slots.specs.declared.DrainFault.{DrainFault}
use Rattle.cb_plan_slots.specs.declared.DrainFault.TheVariants.{Memory, Lost}

-- a slot has what it is meant to have, or it is meant to have a block, which is lost
abbrev pub IsLostOr : Option Sparse → Slot Sparse → Type 0
IsLostOr meant slot_is.Empty = meant ≡ None
IsLostOr meant (slot_is.Sheet m) = meant ≡ Some m
IsLostOr meant (slot_is.Lost origin) = IsSome meant

-- each slot of each rank has what it is meant to have, or the block is lost
abbrev pub LostOrMeans : State Sparse → List (List (Slot Sparse)) → Type 0
LostOrMeans meant stores = (r n : ℕ) → IsLostOr (meant r n) (cell slot_is.Empty stores r n)

-- slot n of each rank has a block, or a block that is lost
abbrev pub AreFilled : ℕ → List (List (Slot Sparse)) → Type 0
AreFilled n stores = (r : ℕ) → r < length stores → is_filled (cell slot_is.Empty stores r n) ≡ true

-- the loss in slot n of the least rank that has one there has this origin
pub record IsFirstLoss (n : ℕ) (stores : List (List (Slot Sparse))) (origin : ℕ) : Type 0 where
  pub rank : ℕ
  pub inside : rank < length stores
  pub lost : cell slot_is.Empty stores rank n ≡ slot_is.Lost origin
  pub least : (k : ℕ) → k < rank → IsSome (state_of stores k n)

-- slot n of some ranks was emptied, and all other slots are as they were
pub record IsPartlyDrained (n : ℕ) (old new : List (List (Slot Sparse))) : Type 0 where
  pub table : IsTable (length old) SLOTS new
  pub others : (r k : ℕ) → n ≢ k → cell slot_is.Empty new r k ≡ cell slot_is.Empty old r k
  pub own : (r : ℕ) → (cell slot_is.Empty new r n ≡ cell slot_is.Empty old r n) ⊎ (cell slot_is.Empty new r n ≡ slot_is.Empty)

-- why the blocks in slot n can't be taken out: memory was refused, or the first loss among them
abbrev pub IsDrainRefusal : ℕ → List (List (Slot Sparse)) → DrainFault → Type 0
IsDrainRefusal n stores Memory = Unit {0}
IsDrainRefusal n stores (Lost origin) = IsFirstLoss n stores origin
