-- What a slot holds before the first half.
use Rattle.std.specs.Prelude.{◌≡◌, Option, Some, None}
use Rattle.cb_matrix.specs.Sparse.{Sparse, Extent}
use Rattle.cb_plan.specs.declared.stores.Slot.{Slot}
use Rattle.cb_plan.specs.declared.stores.Slot.TheVariants as slot_is

-- a block of this shape, or nothing if there is none
abbrev pub HoldsShape : Option Extent → Slot Sparse → Type 0
HoldsShape shape slot_is.Empty = shape ≡ None
HoldsShape shape (slot_is.Sheet m) = shape ≡ Some m.shape
HoldsShape shape (slot_is.Lost origin) = ⊥
