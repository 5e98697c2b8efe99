-- The stores of all ranks, one slot of which is set.
use Rattle.std.proofs.Common.{◌≡◌, ℕ, ◌<◌, true, false, List, ◌∷◌, length, get_or, refl, sym, ap, ◌∙◌, arith}
use Rattle.std.specs.Prelude.{◌==◌, ◌&&◌, if◌then◌else◌}
use Rattle.std.proofs.lemmas.Bool.Decides.{nat_tests}
use Rattle.std.proofs.lemmas.Option.{get_or_from_slice_get, slice_get_read}
use Rattle.cb_plan.specs.declared.stores.Slot.{Slot}
use Rattle.cb_plan.specs.declared.stores.Slot.TheVariants as slot_is
use Rattle.cb_plan.specs.Checks.{all_below}
use Rattle.cb_plan.specs.Stores.{state_of, sheet_of, is_lost, NoneLost}
use Rattle.cb_plan.specs.PlanTables.{IsTable, cell_set}
use Rattle.cb_plan.proofs.Cells.{cell_after_set}
use Rattle.cb_plan.proofs.Effects.{split}

-- an element that was read by its number, by any default
pub read_at : {A : Type 0} (xs : List A) (i : ℕ) (x d : A) → i < length xs → x ≡ get_or xs i x → x ≡ get_or xs i d
read_at xs i x d h e = sym (get_or_from_slice_get xs i x d (slice_get_read xs (length xs) i x refl h e))

-- of numbers that are below a limit, the first is, and so are the others
pub first_below : (limit n : ℕ) (ns : List ℕ) → all_below limit (n ∷ ns) ≡ true → (n < limit) × (all_below limit ns ≡ true)
first_below limit n ns h = (grind (arith, nat_tests), grind (arith, nat_tests))

-- a slot that is not lost is set
module _ {M : Type 0} (t : List (List (Slot M))) (table : IsTable (length t) 256 t) (none : NoneLost t) (r n : ℕ) (x : Slot M) (l : r < length t) (m : n < 256) (kept : is_lost x ≡ false) where
  -- the blocks in the slots after that
  pub state_after_set : (q k : ℕ) → state_of (cell_set t r n x) q k ≡ (if r == q && n == k then sheet_of x else state_of t q k)
  state_after_set q k =
      let e = cell_after_set slot_is.Empty (length t) 256 t r n x table l m q k in
      ap sheet_of e ∙ split (r == q && n == k) (λ u. rw u refl) (λ u. rw u refl)

  -- nothing is lost by it
  pub none_lost_after_set : NoneLost (cell_set t r n x)
  none_lost_after_set q k =
      let e = cell_after_set slot_is.Empty (length t) 256 t r n x table l m q k in
      ap is_lost e ∙ split (r == q && n == k) (λ u. rw u kept) (λ u. rw u (none q k))
