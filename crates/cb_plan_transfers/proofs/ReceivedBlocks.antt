-- Operations of a rank, of which one alone sets a slot; parts of a block that a rank has, and sums of the blocks.
use Rattle.std.proofs.Common.{◌≡◌, ◌≢◌, ℕ, zero, suc, ◌+◌, ◌-◌, ◌<◌, ◌≤◌, true, false, map, refl, sym, ap, subst, ◌∙◌, arith}
use Rattle.std.specs.Prelude.{Option, Some, ◌==◌}
use Rattle.std.specs.List.{range_with_len}
use Rattle.std.proofs.lemmas.Bool.Decides.{nat_tests}
use Rattle.cb_plan.specs.declared.acts.Op.{Op}
use Rattle.cb_plan.specs.declared.acts.Op.TheVariants as op_is
use Rattle.cb_plan.specs.Meaning.{Algebra, target_of, one, two}
use Rattle.cb_plan.proofs.Effects.{split}
use Rattle.cb_plan_operations.proofs.RankPrograms.{after_op, after_ops, ops_skip as after}
use Rattle.cb_plan_operations.proofs.VectorSteps.{summed, yes, no}
use Rattle.cb_plan_transfers.specs.Rounds.{add_to, sums}

module _ {M : Type 0} (ops : Algebra M) where
  -- an operation that sets another slot
  pub op_skips : (op : Op) (x : ℕ) (slots : ℕ → Option M) → target_of op ≢ x → after_op ops op slots x ≡ slots x
  op_skips op x slots ne = let off : (target_of op == x) ≡ false = no (target_of op) x ne in rw off refl

  -- so many operations that set other slots
  pub ops_skip : (f : ℕ → Op) (x a m : ℕ) (slots : ℕ → Option M) → ((k : ℕ) → k < a + m → target_of (f k) ≢ x) → after_ops ops (map f (range_with_len a m)) slots x ≡ slots x
  ops_skip f x a zero slots skip = refl
  ops_skip f x a (suc m) slots skip = ops_skip f x (a + 1) m (after_op ops (f a) slots) (λ k l. skip k (omega arith)) ∙ op_skips (f a) x slots (skip a (omega arith))

  -- operation h sets the slot to what v says, and no other one changes it, or what v says
  pub ops_set : (f : ℕ → Op) (x h : ℕ) (v : (ℕ → Option M) → Option M) (a m : ℕ) (slots : ℕ → Option M) → a ≤ h → h < a + m →
      ((sl : ℕ → Option M) → after_op ops (f h) sl x ≡ v sl) →
      ((k : ℕ) → k ≢ h → target_of (f k) ≢ x) →
      ((k : ℕ) → a ≤ k → k < h → (sl : ℕ → Option M) → v (after_op ops (f k) sl) ≡ v sl) →
      after_ops ops (map f (range_with_len a m)) slots x ≡ v slots
  ops_set f x h v a zero slots l m here others same = absurd (omega arith)
  ops_set f x h v a (suc n) slots l m here others same =
      let next : ℕ → Option M = after_op ops (f a) slots in
      split (a == h)
      (λ t.
      let e : a ≡ h = grind (arith, nat_tests) in
      after ops f x (a + 1) n next (λ k b. others k (let ne : k ≢ h = omega arith in ne))
      ∙ subst (λ k. after_op ops (f k) slots x ≡ v slots) (sym e) (here slots))
      (λ t.
      let b : a < h = grind (arith, nat_tests) in
      ops_set f x h v (a + 1) n next (omega arith) (omega arith) here others (λ k i. same k (omega arith))
      ∙ same a (omega arith) b slots)

  -- slot 1 + k has a part of what is in another slot
  pub cuts_made : (a : ℕ) (rows cols : ℕ → ℕ × ℕ) (count : ℕ) (slots : ℕ → Option M) (block : M) (k : ℕ) → k < count → ((h : ℕ) → h < count → 1 + h ≢ a) → slots a ≡ Some block →
      after_ops ops (map (λ h. op_is.Cut a (rows h) (cols h) (1 + h)) (range_with_len 0 count)) slots (1 + k) ≡ Some (ops.cut (rows k) (cols k) block)
  cuts_made a rows cols count slots block k l away is =
      let part = one (ops.cut (rows k) (cols k)) in
      ops_set (λ h. op_is.Cut a (rows h) (cols h) (1 + h)) (1 + k) k (λ sl. part (sl a)) 0 count slots (omega arith) (omega arith)
      (λ sl. rw (yes (1 + k)) refl)
      (λ h ne. let other : 1 + h ≢ 1 + k = omega (arith, ne) in other)
      (λ h _ b sl. ap part (op_skips (op_is.Cut a (rows h) (cols h) (1 + h)) a sl (away h (omega arith))))
      ∙ ap part is

  -- later blocks are added to the sum of those up to number a
  blocks_add : (block : ℕ → M) (first a m b : ℕ) (slots : ℕ → Option M) → a + m ≡ b → slots first ≡ Some (summed ops block a) → ((t : ℕ) → 0 < t → t ≤ b → slots (first + t) ≡ Some (block t)) →
      after_ops ops (map (add_to first) (range_with_len a m)) slots first ≡ Some (summed ops block b)
  blocks_add block first a zero b slots e so_far has = let f : a ≡ b = omega arith in so_far ∙ ap (λ k. Some (summed ops block k)) f
  blocks_add block first a (suc m) b slots e so_far has =
      let f : a + 1 ≡ suc a = omega arith in
      let g : first + 1 + a ≡ first + suc a = omega arith in
      let next : ℕ → Option M = after_op ops (add_to first a) slots in
      let own : (first == first) ≡ true = yes first in
      let is : next first ≡ Some (summed ops block (a + 1)) =
      rw own (ap (λ x. two ops.add x (slots (first + 1 + a))) so_far
      ∙ ap (λ k. two ops.add (Some (summed ops block a)) (slots k)) g
      ∙ ap (λ x. two ops.add (Some (summed ops block a)) x) (has (suc a) (omega arith) (omega arith))
      ∙ rw f refl) in
      blocks_add block first (a + 1) m b next (omega arith) is (λ t p l. op_skips (add_to first a) (first + t) slots (let ne : first ≢ first + t = omega arith in ne) ∙ has t p l)

  -- the first slot has the sum of the blocks in so many slots
  pub sums_made : (block : ℕ → M) (first count : ℕ) (slots : ℕ → Option M) → 0 < count → ((t : ℕ) → t < count → slots (first + t) ≡ Some (block t)) →
      after_ops ops (sums first count) slots first ≡ Some (summed ops block (count - 1))
  sums_made block first count slots pos has =
      let e : first + 0 ≡ first = omega arith in
      blocks_add block first 0 (count - 1) (count - 1) slots (omega arith) (ap slots (sym e) ∙ has 0 pos) (λ t _ l. has t (omega arith))
