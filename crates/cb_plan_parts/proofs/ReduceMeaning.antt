-- What reduce does.
use Rattle.std.proofs.Common.{◌≡◌, ◌≢◌, ℕ, true, false, List, [], ◌∷◌, refl, ap, ◌∙◌, arith}
use Rattle.std.specs.Prelude.{Option, ◌==◌, ◌&&◌, if◌then◌else◌}
use Rattle.std.specs.List.{flat_map}
use Rattle.std.proofs.lemmas.Bool.Decides.{nat_tests}
use Rattle.cb_letters.specs.declared.Tag.{Tag}
use Rattle.cb_plan.specs.declared.acts.Op.TheVariants as op_is
use Rattle.cb_plan.specs.declared.acts.Act.TheVariants as act_is
use Rattle.cb_plan.specs.Meaning.{Algebra, State, two, act, meaning}
use Rattle.cb_plan.proofs.Effects.{split}
use Rattle.cb_plan_parts.specs.Collectives.{others, added_from, reduce_acts, sum_with, IsReduced}

-- the sum looks at one slot of each rank
same_sum : {M : Type 0} (ops : Algebra M) (state after : State M) (slot : ℕ) (x : Option M) (ms : List ℕ) → ((m : ℕ) → after m slot ≡ state m slot) → sum_with ops after slot x ms ≡ sum_with ops state slot x ms
same_sum ops state after slot x [] h = refl
same_sum ops state after slot x (m ∷ ms) h =
    ap (λ y. sum_with ops after slot (two ops.add x y) ms) (h m) ∙ same_sum ops state after slot (two ops.add x (state m slot)) ms h

module _ {M : Type 0} (ops : Algebra M) (root : ℕ) (tag : Tag) (slot into scratch : ℕ)
    (slot_into : (into == slot) ≡ false) (slot_scratch : (scratch == slot) ≡ false) (into_scratch : (scratch == into) ≡ false) where
  -- a member's slot is added to the root's
  abbrev added : ℕ → State M → State M
  added m state = act ops (act_is.Work root (op_is.Add into scratch into)) (act ops (act_is.Move m root tag slot scratch) state)

  added_elsewhere : (m : ℕ) (state : State M) (r n : ℕ) → (root == r && scratch == n) ≡ false → (root == r && into == n) ≡ false → added m state r n ≡ state r n
  added_elsewhere m state r n f g = rw (g, f) refl

  added_slot : (m : ℕ) (state : State M) (q : ℕ) → added m state q slot ≡ state q slot
  added_slot m state q =
      added_elsewhere m state q slot (split (root == q) (λ t. rw (t, slot_scratch) refl) (λ t. rw t refl)) (split (root == q) (λ t. rw (t, slot_into) refl) (λ t. rw t refl))

  added_into : (m : ℕ) (state : State M) → added m state root into ≡ two ops.add (state root into) (state m slot)
  added_into m state =
      let own : (root == root) ≡ true = grind (arith, nat_tests) in
      let i : (into == into) ≡ true = grind (arith, nat_tests) in
      let s : (scratch == scratch) ≡ true = grind (arith, nat_tests) in
      rw (own, i, s, into_scratch) refl

  adds : (ms : List ℕ) (state : State M) (r n : ℕ) → (root == r && scratch == n) ≡ false →
      meaning ops (flat_map (added_from root tag slot into scratch) ms) state r n
      ≡ (if root == r && into == n then sum_with ops state slot (state root into) (others ms root) else state r n)
  adds [] state r n f =
      split (root == r)
      (λ t. let e : root ≡ r = grind (arith, nat_tests) in rw t (split (into == n) (λ u. let g : into ≡ n = grind (arith, nat_tests) in rw u (rw (e, g) refl)) (λ u. rw u refl)))
      (λ t. rw t refl)
  adds (m ∷ ms) state r n f =
      split (m == root)
      (λ t. rw t (adds ms state r n f))
      (λ t. rw t (adds ms (added m state) r n f
      ∙ split (root == r && into == n)
      (λ u. rw u (same_sum ops state (added m state) slot (added m state root into) (others ms root) (added_slot m state) ∙ ap (λ x. sum_with ops state slot x (others ms root)) (added_into m state)))
      (λ u. rw (u, f) refl)))

-- the root has the sum of all members' slots
pub reduce_sums : {M : Type 0} (ops : Algebra M) (members : List ℕ) (root : ℕ) (tag : Tag) (slot into scratch : ℕ) (state : State M) → slot ≢ into → slot ≢ scratch → into ≢ scratch →
    IsReduced ops members root slot into scratch state (meaning ops (reduce_acts members root tag slot into scratch) state)
reduce_sums {M} ops members root tag slot into scratch state a b c r n f =
    let first : State M = act ops (act_is.Work root (op_is.Copy slot into)) state in
    let si : (into == slot) ≡ false = grind (arith, nat_tests) in
    let ss : (scratch == slot) ≡ false = grind (arith, nat_tests) in
    let is : (scratch == into) ≡ false = grind (arith, nat_tests) in
    let kept : (q : ℕ) → first q slot ≡ state q slot = λ q. split (root == q) (λ t. rw (t, si) refl) (λ t. rw t refl) in
    let own : (root == root) ≡ true = grind (arith, nat_tests) in
    let i : (into == into) ≡ true = grind (arith, nat_tests) in
    let there : first root into ≡ state root slot = rw (own, i) refl in
    adds ops root tag slot into scratch si ss is members first r n f
    ∙ split (root == r && into == n)
    (λ u. rw u (same_sum ops state first slot (first root into) (others members root) kept ∙ ap (λ x. sum_with ops state slot x (others members root)) there))
    (λ u. rw u refl)
