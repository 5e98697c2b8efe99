-- Products that are added to one slot at once: the slot is emptied, and filled again.
use Rattle.std.proofs.Common.{◌≡◌, ◌≢◌, ℕ, ◌<◌, true, List, [], ◌∷◌, map, length, get_or, sym, ap, subst, ◌∙◌, arith}
use Rattle.std.specs.Prelude.{Option, Some, All, slice_set}
use Rattle.std.specs.List.{AllZip}
use Rattle.std.proofs.lemmas.Bool.Decides.{nat_tests}
use Rattle.std.proofs.lemmas.List.{get_or-set_same, get_or-set_other, set-set, set-get_or}
use Rattle.std.proofs.lemmas.List.Elements.{All-nil, All-cons, All-head, All-tail, All-weaker}
use Rattle.std.proofs.lemmas.Option.{same_Some}
use Rattle.std.proofs.Math.ListN.{length-set}
use Rattle.cb_semirings.specs.Arithmetic.{Arithmetic}
use Rattle.cb_matrix.specs.Sparse.{Sparse, Extent}
use Rattle.cb_matrix.specs.Values.{product}
use Rattle.cb_matrix.specs.Operations.{sum_of}
use Rattle.cb_plan.specs.declared.stores.Slot.{Slot}
use Rattle.cb_plan.specs.declared.stores.Slot.TheVariants.{Empty, Sheet}
use Rattle.cb_plan.specs.Meaning.{three}
use Rattle.cb_plan.specs.Checks.{can_add_product, demand}
use Rattle.cb_plan.specs.Stores.{sheet_of, sheets_in, shapes_in}
use Rattle.cb_plan.proofs.ActOnStores.{first_below}
use Rattle.cb_product.specs.SeveralProducts.{MakeShape, plus_products}
use Rattle.cb_rank_work.specs.Slots.{MayBeAdded, adding, after, after_all}
use Rattle.cb_rank_work.specs.FactorSlots.{HoldPair, HoldProduct, IsSumWith}
use Rattle.cb_rank_work.proofs.AddedProducts.{blocks_of, after_is, larger, may_stay, shape_of}

-- a slot that is set changes no other
other_stays : (slots : List (Slot Sparse)) (acc k : ℕ) (x : Slot Sparse) → acc ≢ k → sheets_in (slice_set slots acc x) k ≡ sheets_in slots k
other_stays slots acc k x ne = ap sheet_of (get_or-set_other slots acc k x Empty (λ e. ne (sym e)))

-- slots that hold the factors of products hold them also once the slot is set that the products are added to, and before
module _ (slots : List (Slot Sparse)) (acc : ℕ) (x : Slot Sparse) where
  pub held_then : (ps : List (ℕ × ℕ)) (pairs : List (Sparse × Sparse)) → All (MayBeAdded slots acc) ps → AllZip (HoldPair slots) ps pairs → AllZip (HoldPair (slice_set slots acc x)) ps pairs
  held_then [] [] may held = held
  held_then [] (f ∷ fs) may held = held
  held_then (p ∷ ps) [] may held = held
  held_then (p ∷ ps) (f ∷ fs) may held =
      let apart = (All-head (MayBeAdded slots acc) p ps may).apart in
      ((other_stays slots acc p.0 x apart.0 ∙ held.0.0, other_stays slots acc p.1 x apart.1 ∙ held.0.1), held_then ps fs (All-tail (MayBeAdded slots acc) p ps may) held.1)

  pub held_before : (ps : List (ℕ × ℕ)) (pairs : List (Sparse × Sparse)) → All (MayBeAdded slots acc) ps → AllZip (HoldPair (slice_set slots acc x)) ps pairs → AllZip (HoldPair slots) ps pairs
  held_before [] [] may held = held
  held_before [] (f ∷ fs) may held = held
  held_before (p ∷ ps) [] may held = held
  held_before (p ∷ ps) (f ∷ fs) may held =
      let apart = (All-head (MayBeAdded slots acc) p ps may).apart in
      ((sym (other_stays slots acc p.0 x apart.0) ∙ held.0.0, sym (other_stays slots acc p.1 x apart.1) ∙ held.0.1), held_before ps fs (All-tail (MayBeAdded slots acc) p ps may) held.1)

-- slots of which two have a product that may be added to a third, which is emptied, hold what has a product of its shape
pub may_make : (slots : List (Slot Sparse)) (acc : ℕ) (sum : Sparse) (p : ℕ × ℕ) → Sheet sum ≡ get_or slots acc Empty → MayBeAdded slots acc p → HoldProduct (slice_set slots acc Empty) sum.shape p
may_make slots acc sum p is may =
    let it = blocks_of slots acc p may.done in
    let low = first_below 256 p.0 (p.1 ∷ []) (first_below 256 acc (p.0 ∷ p.1 ∷ []) may.exist).1 in
    let same : it.sum ≡ sum = same_Some it.sum sum (sym it.sum_is ∙ ap sheet_of (sym is)) in
    let agree : can_add_product it.left.shape it.right.shape it.sum.shape ≡ true =
    subst (λ (v : Option Sparse). demand (three can_add_product (Some it.left.shape) (Some it.right.shape) (shape_of v)) ≡ true) it.sum_is
    (subst (λ (v : Option Sparse). demand (three can_add_product (Some it.left.shape) (shape_of v) (shapes_in slots acc)) ≡ true) it.right_is
    (subst (λ (v : Option Sparse). demand (three can_add_product (shape_of v) (shapes_in slots p.1) (shapes_in slots acc)) ≡ true) it.left_is may.done.agree)) in
    let made = agreed it.left.shape it.right.shape it.sum.shape agree in
    record {
      exist = (low.0, (first_below 256 p.1 [] low.1).0);
      pair = (it.left, it.right);
      held = (other_stays slots acc p.0 Empty may.apart.0 ∙ it.left_is, other_stays slots acc p.1 Empty may.apart.1 ∙ it.right_is);
      makes = record { agree = made.0; shape = ap (λ (m : Sparse). m.shape) (sym same) ∙ made.1 };
    }
  where
    extent : (a b : Extent) → a.rows ≡ b.rows → a.cols ≡ b.cols → a ≡ b
    extent a b e f = λ i. record { rows = e i; cols = f i }

    agreed : (a b c : Extent) → can_add_product a b c ≡ true → (a.cols ≡ b.rows) × (c ≡ record { rows = a.rows; cols = b.cols })
    agreed a b c e = (grind (arith, nat_tests), extent c (record { rows = a.rows; cols = b.cols }) (grind (arith, nat_tests)) (grind (arith, nat_tests)))

-- the pairs that slots hold have products of that shape
pub all_make : (slots : List (Slot Sparse)) (shape : Extent) (ps : List (ℕ × ℕ)) (pairs : List (Sparse × Sparse)) → All (HoldProduct slots shape) ps → AllZip (HoldPair slots) ps pairs → All (MakeShape shape) pairs
all_make slots shape [] [] may held = All-nil (MakeShape shape)
all_make slots shape [] (f ∷ fs) may held = absurd held
all_make slots shape (p ∷ ps) [] may held = absurd held
all_make slots shape (p ∷ ps) (f ∷ fs) may held =
    let it = All-head (HoldProduct slots shape) p ps may in
    let left : it.pair.0 ≡ f.0 = same_Some it.pair.0 f.0 (sym it.held.0 ∙ held.0.0) in
    let right : it.pair.1 ≡ f.1 = same_Some it.pair.1 f.1 (sym it.held.1 ∙ held.0.1) in
    let same : it.pair ≡ f = λ i. (left i, right i) in
    All-cons (MakeShape shape) f fs (subst (MakeShape shape) same it.makes) (all_make slots shape ps fs (All-tail (HoldProduct slots shape) p ps may) held.1)

-- the sum with all products is what the slot holds after they are added one after the other, and no other slot changes
pub summed_in_turn : (s : Arithmetic) (acc : ℕ) (ps : List (ℕ × ℕ)) (slots : List (Slot Sparse)) (sum : Sparse) (pairs : List (Sparse × Sparse)) → acc < length slots → get_or slots acc Empty ≡ Sheet sum → All (MayBeAdded slots acc) ps → AllZip (HoldPair slots) ps pairs
    → after_all s (map (adding acc) ps) slots ≡ slice_set slots acc (Sheet (plus_products s sum pairs))
summed_in_turn s acc [] slots sum [] inside is may held = sym (ap (slice_set slots acc) (sym is) ∙ set-get_or slots acc Empty)
summed_in_turn s acc [] slots sum (f ∷ fs) inside is may held = absurd held
summed_in_turn s acc (p ∷ ps) slots sum [] inside is may held = absurd held
summed_in_turn s acc (p ∷ ps) slots sum (f ∷ fs) inside is may held =
    let first = All-head (MayBeAdded slots acc) p ps may in
    let rest = All-tail (MayBeAdded slots acc) p ps may in
    let it = blocks_of slots acc p first.done in
    let left : it.left ≡ f.0 = same_Some it.left f.0 (sym it.left_is ∙ held.0.0) in
    let right : it.right ≡ f.1 = same_Some it.right f.1 (sym it.right_is ∙ held.0.1) in
    let own : it.sum ≡ sum = same_Some it.sum sum (sym it.sum_is ∙ ap sheet_of is) in
    let new : Sparse = sum_of s sum (product s f.0 f.1) in
    let made : larger slots acc p first.done s ≡ new = λ i. sum_of s (own i) (product s (left i) (right i)) in
    let next : List (Slot Sparse) = slice_set slots acc (Sheet new) in
    let once : after s (adding acc p) slots ≡ next = after_is slots acc p first.done s ∙ ap (λ m. slice_set slots acc (Sheet m)) made in
    let size : length next ≡ length slots = length-set slots acc (Sheet new) in
    let stay : All (MayBeAdded next acc) ps = subst (λ l. All (MayBeAdded l acc) ps) once
    (All-weaker (MayBeAdded slots acc) (MayBeAdded (after s (adding acc p) slots) acc) (λ q m. may_stay slots acc p first.done s q inside m) ps rest) in
    ap (after_all s (map (adding acc) ps)) once
    ∙ summed_in_turn s acc ps next new fs (omega arith) (get_or-set_same slots acc (Sheet new) Empty inside) stay (held_then slots acc (Sheet new) ps fs rest held.1)
    ∙ set-set slots acc (Sheet new) (Sheet (plus_products s new fs))

-- the sum with all products is put back
pub added_at_once : (s : Arithmetic) (acc : ℕ) (ps : List (ℕ × ℕ)) (xs ys zs : List (Slot Sparse)) (sum new : Sparse) → acc < length xs → Sheet sum ≡ get_or xs acc Empty → All (MayBeAdded xs acc) ps
    → ys ≡ slice_set xs acc Empty → IsSumWith s ys sum ps new → zs ≡ slice_set ys acc (Sheet new) → zs ≡ after_all s (map (adding acc) ps) xs
added_at_once s acc ps xs ys zs sum new inside was may left is put =
    let held = held_before xs acc Empty ps is.0 may (subst (λ l. AllZip (HoldPair l) ps is.0) left is.1) in
    put ∙ ap (λ l. slice_set l acc (Sheet new)) left ∙ set-set xs acc Empty (Sheet new) ∙ ap (λ m. slice_set xs acc (Sheet m)) is.2 ∙ sym (summed_in_turn s acc ps xs sum is.0 inside (sym was) may held)
