-- Blocks that change sides: each rank's slot 1 goes to slot 2 of the rank on the other side of the diagonal.
use Rattle.std.proofs.Common.{◌≡◌, ℕ, zero, suc, ◌+◌, ◌*◌, ◌/◌, ◌%◌, ◌<◌, ◌≤◌, true, false, List, ◌++◌, map, refl, sym, ap, subst, ◌∙◌, arith}
use Rattle.std.specs.Prelude.{Some, is_some, ◌==◌, ◌&&◌, nat_le, nat_lt, if◌then◌else◌}
use Rattle.std.specs.List.{range_with_len}
use Rattle.std.proofs.lemmas.Bool.Decides.{nat_tests}
use Rattle.std.proofs.lemmas.Nat.{mod_below}
use Rattle.cb_matrix.specs.Sparse.{Extent}
use Rattle.cb_matrix.specs.Operations.{transposed}
use Rattle.cb_plan.specs.declared.acts.Op.TheVariants as op_is
use Rattle.cb_plan.specs.declared.acts.Act.{Act}
use Rattle.cb_plan.specs.Meaning.{Algebra, State, act, meaning, one}
use Rattle.cb_plan.specs.Algebras.{matrices, shapes}
use Rattle.cb_plan.specs.Checks.{started, none_shut}
use Rattle.cb_plan.proofs.Effects.{split, meaning-append}
use Rattle.cb_grid.specs.Parts.{part_shape}
use Rattle.cb_grid.proofs.Parts.{rank_of, row_below, rank_below}
use Rattle.cb_plan_parts.specs.Collectives.{sent, shut_acts}
use Rattle.cb_plan_parts.proofs.SendMeaning.{act_sent}
use Rattle.cb_plan_parts.proofs.SendCheck.{sends_keep_lanes, sends_pass}
use Rattle.cb_plan_parts.proofs.ShutMeaning.{shut_nothing}
use Rattle.cb_plan_parts.specs.PlanParts.{tagged, each_rank, operand_starts}
use Rattle.cb_plan_parts.specs.Flows.{Flows}
use Rattle.cb_plan_parts.proofs.Everywhere.{each_here, each_elsewhere}
use Rattle.cb_plan_parts.proofs.Flows.{flows-append, each_flows}
use Rattle.cb_plan_parts.proofs.Grid.{at_place}
use Rattle.cb_plan_parts.proofs.Starts.{operand_parts}
use Rattle.cb_plan_operations.specs.GridPlans.{one_operand, mirrored, mirror_acts, transpose_acts, IsTransposePlan}
use Rattle.cb_plan_operations.proofs.ResultBlocks.{transposed_block}

-- the rank on the other side, by row and column
mirrored_place : (q i j : ℕ) → j < q → mirrored q (i * q + j) ≡ j * q + i
mirrored_place q i j l = at_place (λ x y. y * q + x) q i j l

mirrored_below : (q r : ℕ) → 0 < q → r < q * q → mirrored q r < q * q
mirrored_below q r pos l = rank_below q (r % q) (r / q) (mod_below r q pos) (row_below q r l)

mirrored_twice : (q r : ℕ) → r < q * q → mirrored q (mirrored q r) ≡ r
mirrored_twice q r l = mirrored_place q (r % q) (r / q) (row_below q r l) ∙ rank_of q r

is_equal : (x y : ℕ) → (x == y) ≡ true → x ≡ y
is_equal x y t = grind (arith, nat_tests)

are_equal : (x y : ℕ) → x ≡ y → (x == y) ≡ true
are_equal x y e = grind (arith, nat_tests)

-- a number of a range, by whether it is the first
in_none : (a p : ℕ) → (nat_le a p && nat_lt p (a + zero)) ≡ false
in_none a p = grind (arith, nat_tests)

not_later : (a n p : ℕ) → p ≡ a → (nat_le (a + 1) p && nat_lt p (a + 1 + n)) ≡ false
not_later a n p e = grind (arith, nat_tests)

first_in : (a n p : ℕ) → p ≡ a → (nat_le a p && nat_lt p (a + suc n)) ≡ true
first_in a n p e = grind (arith, nat_tests)

later_in : (a n p : ℕ) → (p == a) ≡ false → (nat_le a p && nat_lt p (a + suc n)) ≡ (nat_le (a + 1) p && nat_lt p (a + 1 + n))
later_in a n p f = grind (arith, nat_tests)

all_in : (m p : ℕ) → p < m → (nat_le 0 p && nat_lt p (0 + m)) ≡ true
all_in m p l = grind (arith, nat_tests)

-- if one rank is on the other side of another, that one is on the other side of it
mirrored_both : (q a r : ℕ) → a < q * q → r < q * q → (mirrored q a == r) ≡ (mirrored q r == a)
mirrored_both q a r l m =
    split (mirrored q a == r)
    (λ t.
    let f : mirrored q r ≡ a = ap (mirrored q) (sym (is_equal (mirrored q a) r t)) ∙ mirrored_twice q a l in
    t ∙ sym (are_equal (mirrored q r) a f))
    (λ t. split (mirrored q r == a)
    (λ u.
    let f : mirrored q a ≡ r = ap (mirrored q) (sym (is_equal (mirrored q r) a u)) ∙ mirrored_twice q r m in
    are_equal (mirrored q a) r f ∙ sym u)
    (λ u. t ∙ sym u))

module _ {M : Type 0} (ops : Algebra M) (q : ℕ) where
  abbrev mirrors : ℕ → ℕ → List Act
  mirrors a n = map (λ r. sent r (mirrored q r) (tagged 0) 1 2) (range_with_len a n)

  mirror_keeps_from : (a n : ℕ) (state : State M) (r x : ℕ) → (2 == x) ≡ false → meaning ops (mirrors a n) state r x ≡ state r x
  mirror_keeps_from a zero state r x f = refl
  mirror_keeps_from a (suc n) state r x f =
      mirror_keeps_from (a + 1) n (act ops (sent a (mirrored q a) (tagged 0) 1 2) state) r x f
      ∙ act_sent ops a (mirrored q a) (tagged 0) 1 2 state r x
      ∙ split (mirrored q a == r) (λ t. rw (t, f) refl) (λ t. rw t refl)

  -- slots other than slot 2 stay
  pub mirror_keeps : (state : State M) (r x : ℕ) → (2 == x) ≡ false → meaning ops (mirror_acts q) state r x ≡ state r x
  mirror_keeps state r x f = mirror_keeps_from 0 (q * q) state r x f

  mirror_from : (a n : ℕ) (state : State M) (r : ℕ) → r < q * q → a + n ≤ q * q →
      meaning ops (mirrors a n) state r 2 ≡ (if nat_le a (mirrored q r) && nat_lt (mirrored q r) (a + n) then state (mirrored q r) 1 else state r 2)
  mirror_from a zero state r l m = let f : (nat_le a (mirrored q r) && nat_lt (mirrored q r) (a + zero)) ≡ false = in_none a (mirrored q r) in rw f refl
  mirror_from a (suc n) state r l m =
      let next : State M = act ops (sent a (mirrored q a) (tagged 0) 1 2) state in
      let is_next : next r 2 ≡ (if mirrored q a == r && 2 == 2 then state a 1 else state r 2) = act_sent ops a (mirrored q a) (tagged 0) 1 2 state r 2 in
      let kept : next (mirrored q r) 1 ≡ state (mirrored q r) 1 = act_sent ops a (mirrored q a) (tagged 0) 1 2 state (mirrored q r) 1 ∙ split (mirrored q a == mirrored q r) (λ t. rw t refl) (λ t. rw t refl) in
      let both = mirrored_both q a r (omega arith) l in
      mirror_from (a + 1) n next r l (omega arith)
      ∙ split (mirrored q r == a)
      (λ t.
      let e : mirrored q r ≡ a = is_equal (mirrored q r) a t in
      let u : (mirrored q a == r) ≡ true = both ∙ t in
      let f : (nat_le (a + 1) (mirrored q r) && nat_lt (mirrored q r) (a + 1 + n)) ≡ false = not_later a n (mirrored q r) e in
      let g : (nat_le a (mirrored q r) && nat_lt (mirrored q r) (a + suc n)) ≡ true = first_in a n (mirrored q r) e in
      rw (f, g) (is_next ∙ rw u (ap (λ k. state k 1) (sym e))))
      (λ t.
      let u : (mirrored q a == r) ≡ false = both ∙ t in
      let g : (nat_le a (mirrored q r) && nat_lt (mirrored q r) (a + suc n)) ≡ (nat_le (a + 1) (mirrored q r) && nat_lt (mirrored q r) (a + 1 + n)) = later_in a n (mirrored q r) t in
      rw g (split (nat_le (a + 1) (mirrored q r) && nat_lt (mirrored q r) (a + 1 + n))
      (λ v. rw v kept)
      (λ v. rw v (is_next ∙ rw u refl))))

  -- slot 2 of each rank is what slot 1 was across the diagonal
  pub mirror_brings : (state : State M) (i j : ℕ) → i < q → j < q → meaning ops (mirror_acts q) state (i * q + j) 2 ≡ state (j * q + i) 1
  mirror_brings state i j l h =
      let e = mirrored_place q i j h in
      let m = rank_below q j i h l in
      let t : (nat_le 0 (mirrored q (i * q + j)) && nat_lt (mirrored q (i * q + j)) (0 + q * q)) ≡ true = all_in (q * q) (mirrored q (i * q + j)) (subst (λ x. x < q * q) (sym e) m) in
      mirror_from 0 (q * q) state (i * q + j) (rank_below q i j l h) (omega arith) ∙ rw t (ap (λ r. state r 1) e)

-- the acts leave the transpose
pub is_transpose_plan : (q : ℕ) (shape : Extent) → IsTransposePlan (transpose_acts q) q shape
is_transpose_plan q shape s a e state has =
    let ops = matrices s in
    let turn = each_rank q (λ _. op_is.Transpose 0 1) in
    let turned = meaning ops turn state in
    let is : meaning ops (transpose_acts q) state ≡ meaning ops (mirror_acts q) turned =
    meaning-append ops (turn ++ mirror_acts q) (shut_acts (q * q)) state
    ∙ shut_nothing ops (q * q) (meaning ops (turn ++ mirror_acts q) state)
    ∙ meaning-append ops turn (mirror_acts q) state in
    record {
      parts = λ i j l h.
          ap (λ x. x (i * q + j) 2) is
          ∙ mirror_brings ops q turned i j l h
          ∙ each_here ops q (λ _. op_is.Transpose 0 1) state j i h l
          ∙ ap (one (transposed s)) (has j i h l)
          ∙ ap Some (transposed_block s q a i j);
      kept = λ r.
          ap (λ x. x r 0) is
          ∙ mirror_keeps ops q turned r 0 refl
          ∙ each_elsewhere ops q (λ _. op_is.Transpose 0 1) state r 0 (omega arith);
    }

-- blocks that change sides pass the check, if each rank has one in slot 1
pub mirror_flow : (q : ℕ) → 0 < q → (state : State Extent) → ((i j : ℕ) → i < q → j < q → is_some (state (i * q + j) 1) ≡ true) → Flows (q * q) none_shut state (mirror_acts q)
mirror_flow q pos state filled =
    let exist : (k : ℕ) → k < q * q → (k < q * q) × (mirrored q k < q * q) × (1 < 256) × (2 < 256) = λ k l. (l, mirrored_below q k pos l, omega arith, omega arith) in
    record {
      passes = sends_pass (q * q) (tagged 0) none_shut (λ s t. refl) (λ k. k) (mirrored q) (λ _. 1) (λ _. 2) (q * q) exist 0 (q * q) state (omega arith)
          (λ k l. subst (λ r. is_some (state r 1) ≡ true) (rank_of q k) (filled (k / q) (k % q) (row_below q k l) (mod_below k q pos)));
      lanes = sends_keep_lanes (q * q) (tagged 0) none_shut (λ s t. refl) (λ k. k) (mirrored q) (λ _. 1) (λ _. 2) (q * q) exist 0 (q * q);
    }

-- and so does a transpose, if each rank has its part of a matrix
module _ (q : ℕ) (pos : 0 < q) (a : Extent) (state : State Extent) (left : (i j : ℕ) → i < q → j < q → state (i * q + j) 0 ≡ Some (part_shape q a i j)) where
  turns_flow : Flows (q * q) none_shut state (each_rank q (λ _. op_is.Transpose 0 1))
  turns_flow = each_flows q pos none_shut (λ _. op_is.Transpose 0 1) state (λ i j l h.
      let x : state (i * q + j) 0 ≡ Some (part_shape q a i j) = left i j l h in
      record { exists = rank_below q i j l h; slots_exist = refl; filled = rw x refl; agree = refl })

  filled_at : (i j : ℕ) → i < q → j < q → is_some (meaning shapes (each_rank q (λ _. op_is.Transpose 0 1)) state (i * q + j) 1) ≡ true
  filled_at i j l h = ap (λ x. is_some x) (each_here shapes q (λ _. op_is.Transpose 0 1) state i j l h ∙ ap (one shapes.transpose) (left i j l h))

  transpose_flow_from : Flows (q * q) none_shut state (each_rank q (λ _. op_is.Transpose 0 1) ++ mirror_acts q)
  transpose_flow_from =
      let turned = meaning shapes (each_rank q (λ _. op_is.Transpose 0 1)) state in
      flows-append (q * q) none_shut state (each_rank q (λ _. op_is.Transpose 0 1)) (mirror_acts q) turns_flow (mirror_flow q pos turned filled_at)

-- from the parts of an operand the acts of a transpose pass, and shut no lane
pub transpose_flow : (q : ℕ) → 0 < q → (a : Extent) → Flows (q * q) none_shut (started (operand_starts q (one_operand a))) (each_rank q (λ _. op_is.Transpose 0 1) ++ mirror_acts q)
transpose_flow q pos a = transpose_flow_from q pos a (started (operand_starts q (one_operand a))) (operand_parts q (one_operand a) 0 a (λ r. refl))
