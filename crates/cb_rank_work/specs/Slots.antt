-- Operations on the slots of one rank.
use Rattle.std.specs.Prelude.{◌≡◌, ◌≢◌, ℕ, true, List, [], ◌∷◌, slice_set}
use Rattle.cb_semirings.specs.Arithmetic.{Arithmetic}
use Rattle.cb_matrix.specs.Sparse.{Sparse}
use Rattle.cb_plan.specs.declared.acts.Op.{Op}
use Rattle.cb_plan.specs.declared.acts.Op.TheVariants.{MulAdd}
use Rattle.cb_plan.specs.declared.stores.Slot.{Slot}
use Rattle.cb_plan.specs.declared.stores.TheConstants.{SLOTS}
use Rattle.cb_plan.specs.Meaning.{result_of, target_of}
use Rattle.cb_plan.specs.Algebras.{matrices}
use Rattle.cb_plan.specs.Checks.{all_below, all_filled, operands_of, shapes_agree}
use Rattle.cb_plan.specs.Stores.{sheets_in, shapes_in, slot_of}

-- the operands of an operation are there, with the shapes that it requires
pub record MayBeDone (op : Op) (slots : List (Slot Sparse)) : Type 0 where
  pub filled : all_filled (shapes_in slots) (operands_of op) ≡ true
  pub agree : shapes_agree (shapes_in slots) op ≡ true

-- the slots after an operation
abbrev pub after : Arithmetic → Op → List (Slot Sparse) → List (Slot Sparse)
after s op slots = slice_set slots (target_of op) (slot_of (result_of (matrices s) op (sheets_in slots)))

-- the slots after operations, one after the other
abbrev pub after_all : Arithmetic → List Op → List (Slot Sparse) → List (Slot Sparse)
after_all s [] slots = slots
after_all s (op ∷ ops) slots = after_all s ops (after s op slots)

-- the operation that adds the product of two slots to a third
abbrev pub adding : ℕ → ℕ × ℕ → Op
adding acc p = MulAdd p.0 p.1 acc

-- the product of two slots may be added to a third, which is neither of them
pub record MayBeAdded (slots : List (Slot Sparse)) (acc : ℕ) (p : ℕ × ℕ) : Type 0 where
  pub exist : all_below SLOTS (acc ∷ p.0 ∷ p.1 ∷ []) ≡ true
  pub apart : (acc ≢ p.0) × (acc ≢ p.1)
  pub done : MayBeDone (adding acc p) slots
