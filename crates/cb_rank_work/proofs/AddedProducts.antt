-- Products that are added to one slot, one after the other.
use Rattle.std.proofs.Common.{◌≡◌, ◌≢◌, ℕ, ◌<◌, Bool, true, false, List, [], ◌∷◌, length, refl, sym, ap, subst, ◌∙◌, arith}
use Rattle.std.specs.Prelude.{Option, Some, None, All, is_some, ◌==◌, ◌&&◌, slice_set}
use Rattle.std.proofs.lemmas.Bool.Decides.{nat_tests}
use Rattle.std.proofs.lemmas.List.{get_or-set_same, get_or-set_other}
use Rattle.std.proofs.lemmas.List.Elements.{All-head}
use Rattle.cb_semirings.specs.Arithmetic.{Arithmetic}
use Rattle.cb_matrix.specs.Sparse.{Sparse, Extent}
use Rattle.cb_matrix.specs.Values.{product}
use Rattle.cb_matrix.specs.Operations.{sum_of}
use Rattle.cb_plan.specs.declared.stores.Slot.{Slot}
use Rattle.cb_plan.specs.declared.stores.Slot.TheVariants.{Empty, Sheet}
use Rattle.cb_plan.specs.Meaning.{one, three}
use Rattle.cb_plan.specs.Algebras.{matrices}
use Rattle.cb_plan.specs.Checks.{all_filled, operands_of, shapes_agree}
use Rattle.cb_plan.specs.Stores.{sheet_of, sheets_in, shapes_in, slot_of}
use Rattle.cb_plan.proofs.ActOnStores.{first_below}
use Rattle.cb_plan.proofs.Effects.{split}
use Rattle.cb_rank_work.specs.Slots.{MayBeDone, MayBeAdded, adding, after}

-- the shape of a block, if there is one
abbrev pub shape_of : Option Sparse → Option Extent
shape_of = one (λ (m : Sparse). m.shape)

-- a block that has a shape is there
held : (x : Option Sparse) → is_some (shape_of x) ≡ true → (m : Sparse) × (x ≡ Some m)
held (Some m) e = (m, refl)
held None e = cc

both : (b c : Bool) → (b && c) ≡ true → (b ≡ true) × (c ≡ true)
both true c h = (refl, h)
both false c h = cc

-- the blocks whose product may be added, and the one that it is added to
pub record Blocks (slots : List (Slot Sparse)) (acc : ℕ) (p : ℕ × ℕ) : Type 0 where
  pub left : Sparse
  pub right : Sparse
  pub sum : Sparse
  pub left_is : sheets_in slots p.0 ≡ Some left
  pub right_is : sheets_in slots p.1 ≡ Some right
  pub sum_is : sheets_in slots acc ≡ Some sum

module _ (slots : List (Slot Sparse)) (acc : ℕ) (p : ℕ × ℕ) (may : MayBeDone (adding acc p) slots) where
  pub blocks_of : Blocks slots acc p
  blocks_of =
      let first = both _ _ may.filled in
      let second = both _ _ first.1 in
      let third = both _ _ second.1 in
      let l = held (sheets_in slots p.0) first.0 in
      let r = held (sheets_in slots p.1) second.0 in
      let m = held (sheets_in slots acc) third.0 in
      record { left = l.0; right = r.0; sum = m.0; left_is = l.1; right_is = r.1; sum_is = m.1 }

  -- the sum with the product
  abbrev pub larger : Arithmetic → Sparse
  larger s = sum_of s blocks_of.sum (product s blocks_of.left blocks_of.right)

  -- the slots after the product is added
  pub after_is : (s : Arithmetic) → after s (adding acc p) slots ≡ slice_set slots acc (Sheet (larger s))
  after_is s =
      let made : three (matrices s).mul_add (sheets_in slots p.0) (sheets_in slots p.1) (sheets_in slots acc) ≡ Some (larger s) = rw (blocks_of.left_is, blocks_of.right_is, blocks_of.sum_is) refl in
      ap (λ v. slice_set slots acc (slot_of v)) made

  -- each slot keeps its shape
  pub shapes_stay : (s : Arithmetic) → acc < length slots → (n : ℕ) → shapes_in (after s (adding acc p) slots) n ≡ shapes_in slots n
  shapes_stay s inside n =
      let set : List (Slot Sparse) = slice_set slots acc (Sheet (larger s)) in
      let at_sum : shapes_in set acc ≡ shapes_in slots acc = ap (λ y. shape_of (sheet_of y)) (get_or-set_same slots acc (Sheet (larger s)) Empty inside) ∙ ap shape_of (sym blocks_of.sum_is) in
      ap (λ xs. shapes_in xs n) (after_is s)
      ∙ split (n == acc)
      (λ t. let same : n ≡ acc = grind (arith, nat_tests) in subst (λ k. shapes_in set k ≡ shapes_in slots k) (sym same) at_sum)
      (λ f. let ne : n ≢ acc = grind (arith, nat_tests) in ap (λ y. shape_of (sheet_of y)) (get_or-set_other slots acc n (Sheet (larger s)) Empty ne))

  -- so another product may still be added to it
  pub may_stay : (s : Arithmetic) (q : ℕ × ℕ) → acc < length slots → MayBeAdded slots acc q → MayBeAdded (after s (adding acc p) slots) acc q
  may_stay s q inside other =
      let same : shapes_in slots ≡ shapes_in (after s (adding acc p) slots) = sym (λ i n. shapes_stay s inside n i) in
      record {
        exist = other.exist;
        apart = other.apart;
        done = record {
          filled = subst (λ v. all_filled v (operands_of (adding acc q)) ≡ true) same other.done.filled;
          agree = subst (λ v. shapes_agree v (adding acc q) ≡ true) same other.done.agree;
        };
      }

-- the slot that products may be added to exists
pub sum_inside : (slots : List (Slot Sparse)) (acc : ℕ) (products : List (ℕ × ℕ)) → length slots ≡ 256 → 0 < length products → All (MayBeAdded slots acc) products → acc < length slots
sum_inside slots acc [] size some may = absurd (omega arith)
sum_inside slots acc (p ∷ ps) size some may =
    let l = (first_below 256 acc (p.0 ∷ p.1 ∷ []) (All-head (MayBeAdded slots acc) p ps may).exist).0 in omega arith
