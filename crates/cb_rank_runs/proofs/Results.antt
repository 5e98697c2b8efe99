-- What a rank leaves in a slot, or posts, agrees with what the plan means. The counts of refusals are those at the end of all runs.
use Rattle.std.proofs.Common.{◌≡◌, ℕ, ◌-◌, ◌≤◌, false, List, refl, ap, arith, inl, inr}
use Rattle.std.specs.Prelude.{Option, IsSome}
use Rattle.std.proofs.lemmas.Bool.Decides.{nat_tests}
use Rattle.cb_semirings.specs.Arithmetic.{Arithmetic}
use Rattle.cb_matrix.specs.Sparse.{Sparse}
use Rattle.cb_letters.specs.declared.Body.{Body}
use Rattle.cb_letters.specs.declared.Body.TheVariants as body_is
use Rattle.cb_plan.specs.declared.acts.Op.{Op}
use Rattle.cb_plan.specs.declared.stores.Slot.{Slot}
use Rattle.cb_plan.specs.declared.stores.Slot.TheVariants as slot_is
use Rattle.cb_plan.specs.Algebras.{matrices}
use Rattle.cb_plan.specs.Checks.{operands_of}
use Rattle.cb_plan.specs.PlanLetters.{Sheet}
use Rattle.cb_plan.specs.Meaning.{result_of}
use Rattle.cb_plan.specs.Stores.{is_lost, sheet_of}
use Rattle.cb_rank.specs.Agreement.{IsSlotOf, IsBodyOf}
use Rattle.cb_rank.specs.Halves.{slot_at, IsCopy, IsWork}
use Rattle.cb_rank.proofs.ByOperation.{AllSome}
use Rattle.cb_rank.proofs.Halves.{some_of, worked}

-- a slot that isn't lost agrees with its own sheet
pub sheet_stands : {M : Type 0} (refs : ℕ → ℕ) (x : Slot M) → is_lost x ≡ false → IsSlotOf refs (sheet_of x) x
sheet_stands refs slot_is.Empty h = refl
sheet_stands refs (slot_is.Sheet m) h = refl
sheet_stands refs (slot_is.Lost o) h = absurd (grind (arith, nat_tests))

-- what an operation leaves in its slot
pub worked_by_end : (s : Arithmetic) (refs : ℕ → ℕ) (me : ℕ) (op : Op) (f : ℕ → Option Sparse) (slots : List (Slot Sparse)) (x : Slot Sparse) (old new : ℕ) → ((n : ℕ) → IsSlotOf refs (f n) (slot_at slots n)) → AllSome f (operands_of op) → new ≤ refs me → IsWork s me op slots x old new → IsSlotOf refs (result_of (matrices s) op f) x
worked_by_end s refs me op f slots x old new h there l (inl e) = worked s refs refs me op f slots x there h (inl (e.0, refl))
worked_by_end s refs me op f slots x old new h there l (inr e) =
    let count = e.1 in
    worked s (λ q. refs me - 1) refs me op f slots x there h (inr (e.0, omega arith, e.2, e.3))

-- what is posted for a slot
pub copied_by_end : (refs : ℕ → ℕ) (me : ℕ) (w : Option Sparse) (x : Slot Sparse) (b : Body Sparse) (old new : ℕ) → new ≤ refs me → IsSome w → IsSlotOf refs w x → IsCopy me x b old new → IsBodyOf refs (Sheet w) b
copied_by_end refs me w (slot_is.Sheet m) (body_is.Sheet n) old new l some h c = rw (h, c.0) refl
copied_by_end refs me w (slot_is.Sheet m) (body_is.Lost o) old new l some h c = ((m, rw h refl), let n = c.1 in rw (c.0) (omega arith))
copied_by_end refs me w (slot_is.Sheet m) body_is.Close old new l some h c = absurd c
copied_by_end refs me w (slot_is.Lost o) (body_is.Lost p) old new l some h c = let it = some_of w some in ((it.0, ap Sheet it.1), rw (c.0) h.1)
copied_by_end refs me w (slot_is.Lost o) (body_is.Sheet n) old new l some h c = absurd c
copied_by_end refs me w (slot_is.Lost o) body_is.Close old new l some h c = absurd c
copied_by_end refs me w slot_is.Empty b old new l some h c = absurd c
