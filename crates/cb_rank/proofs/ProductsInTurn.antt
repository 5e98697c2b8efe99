-- Products that are added to one slot at once: as if they were added one after the other.
use Rattle.std.proofs.Common.{◌≡◌, ℕ, ◌<◌, arith, List, [], ◌∷◌, length, map, refl, sym, ap, ◌∙◌}
use Rattle.std.specs.Prelude.{Option, None, IsSome, is_some, false, Some, All, slice_set}
use Rattle.std.proofs.lemmas.List.Elements.{All-head, All-tail, All-weaker}
use Rattle.std.proofs.Math.ListN.{length-set}
use Rattle.cb_semirings.specs.Arithmetic.{Arithmetic}
use Rattle.cb_matrix.specs.Sparse.{Sparse}
use Rattle.cb_plan.specs.declared.acts.Op.{Op}
use Rattle.cb_plan.specs.declared.stores.Slot.{Slot}
use Rattle.cb_plan.specs.declared.stores.Slot.TheVariants as slot_is
use Rattle.cb_plan.specs.Meaning.{one}
use Rattle.cb_plan.specs.Checks.{operands_of}
use Rattle.cb_plan.specs.Stores.{sheet_of, shapes_in}
use Rattle.cb_rank_work.specs.Slots.{MayBeDone, MayBeAdded, adding, after, after_all}
use Rattle.cb_rank_work.proofs.AddedProducts.{may_stay}
use Rattle.cb_rank.specs.Halves.{slot_at, origin_of, first_lost, loss_or_result, worked, worked_all}
use Rattle.cb_rank.specs.Ranks.{FitOperation}
use Rattle.cb_rank.specs.AddedProducts.{FitProduct, HasNoneLost}
use Rattle.cb_rank.proofs.ByOperation.{AllSome, filled_slots, may_work}
use Rattle.cb_rank.proofs.RankAfterHalf.{none_lost_shapes}

-- what isn't there isn't some
pub none_of_test : (x : Option ℕ) → is_some x ≡ false → x ≡ None
none_of_test (Some n) e = cc
none_of_test None e = refl

-- slots of which none is lost have what an operation requires
pub may_be_done : (op : Op) (slots : List (Slot Sparse)) → first_lost slots (operands_of op) ≡ None → FitOperation op slots → MayBeDone op slots
may_be_done op slots none fit = let may = may_work op _ fit.0 (none_lost_shapes fit.0 slots (operands_of op) fit.3 none) (fit.1, fit.2) in record { filled = may.0; agree = may.1 }

-- slots of which none is lost have what these additions require
pub may_be_added : (slots : List (Slot Sparse)) (acc : ℕ) (products : List (ℕ × ℕ)) → All (FitProduct slots acc) products → All (HasNoneLost slots acc) products → All (MayBeAdded slots acc) products
may_be_added slots acc products fit none i p inside =
    let f = fit i p inside in
    record { exist = f.exist; apart = f.apart; done = may_be_done (adding acc _) slots (none i p inside) f.fits }

-- a slot that has a shape isn't lost
held_origin : (y : Slot Sparse) (later : Option ℕ) → IsSome (one (λ (m : Sparse). m.shape) (sheet_of y)) → origin_of y later ≡ later
held_origin slot_is.Empty later some = cc
held_origin (slot_is.Sheet m) later some = refl
held_origin (slot_is.Lost o) later some = cc

-- of slots that have shapes none is lost
none_lost : (slots : List (Slot Sparse)) (ns : List ℕ) → AllSome (shapes_in slots) ns → first_lost slots ns ≡ None
none_lost slots [] some = refl
none_lost slots (n ∷ ns) some = held_origin (slot_at slots n) (first_lost slots ns) some.0 ∙ none_lost slots ns some.1

-- products that may be added leave what they leave one after the other
pub added_in_turn : (s : Arithmetic) (acc : ℕ) (products : List (ℕ × ℕ)) (slots : List (Slot Sparse)) → acc < length slots → All (MayBeAdded slots acc) products → after_all s (map (adding acc) products) slots ≡ worked_all s (map (adding acc) products) slots
added_in_turn s acc [] slots inside may = refl
added_in_turn s acc (p ∷ ps) slots inside may =
    let op : Op = adding acc p in
    let first = All-head (MayBeAdded slots acc) p ps may in
    let next : List (Slot Sparse) = after s op slots in
    let none : first_lost slots (operands_of op) ≡ None = none_lost slots (operands_of op) (filled_slots (shapes_in slots) (operands_of op) first.done.filled) in
    let same : next ≡ worked s op slots = ap (λ l. slice_set slots acc (loss_or_result s op slots l)) (sym none) in
    let size : length next ≡ length slots = length-set slots acc _ in
    let rest : All (MayBeAdded next acc) ps = All-weaker (MayBeAdded slots acc) (MayBeAdded next acc) (λ q m. may_stay slots acc p first.done s q inside m) ps (All-tail (MayBeAdded slots acc) p ps may) in
    added_in_turn s acc ps next (omega arith) rest ∙ ap (worked_all s (map (adding acc) ps)) same
