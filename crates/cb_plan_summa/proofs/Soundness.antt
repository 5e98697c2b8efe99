-- The acts of the plans pass the check.
use Rattle.std.proofs.Common.{◌≡◌, ℕ, zero, suc, ◌+◌, ◌*◌, ◌<◌, ◌≤◌, true, List, ◌++◌, refl, ap, ◌∙◌, arith}
use Rattle.std.specs.Prelude.{Some, ◌==◌, nat_lt}
use Rattle.std.proofs.lemmas.Bool.Decides.{nat_tests}
use Rattle.cb_matrix.specs.Sparse.{Extent}
use Rattle.cb_plan.specs.declared.acts.Act.{Act}
use Rattle.cb_plan.specs.Meaning.{State, meaning}
use Rattle.cb_plan.specs.Algebras.{shapes}
use Rattle.cb_plan.specs.Checks.{none_shut, started}
use Rattle.cb_grid.specs.declared.TheConstants.{LARGEST_SIDE}
use Rattle.cb_grid.specs.Parts.{row_group, column_group, part_shape, part_length}
use Rattle.cb_grid.proofs.Parts.{rank_below}
use Rattle.cb_plan_parts.specs.PlanParts.{tagged, zero_op, each_rank, operand_starts}
use Rattle.cb_plan_parts.specs.Flows.{Flows}
use Rattle.cb_plan_parts.proofs.Grid.{row_exists, row_distinct, column_exists, column_distinct}
use Rattle.cb_plan_parts.proofs.Groups.{groups_stay}
use Rattle.cb_plan_parts.proofs.Flows.{flows-append, flows_each, each_flows}
use Rattle.cb_plan_parts.proofs.GroupBroadcasts.{groups_flow}
use Rattle.cb_plan_parts.proofs.Starts.{operand_parts}
use Rattle.cb_plan_summa.specs.Summa.{left_slot, right_slot, product_op, mask_op, broadcasts, products, all_broadcasts, all_products, result_shape, product_acts, factors, masked_factors, stages_sum}
use Rattle.cb_plan_summa.proofs.StageSlots.{after_result, slots_exist}
use Rattle.cb_plan_summa.proofs.Stages.{AtStage, rows, columns, row_root, column_root, at_start, one_arrives, one_adds, all_arrive, after_products, products_leave}

-- shapes that are added to stay what they are
stages_keep_shape : (left right : ℕ → Extent) (first : Extent) (k : ℕ) → stages_sum shapes left right first k ≡ first
stages_keep_shape left right first zero = refl
stages_keep_shape left right first (suc k) = stages_keep_shape left right first k

module _ (q : ℕ) (pos : 0 < q) (few : q ≤ LARGEST_SIDE) (a b : Extent) (agree : a.cols ≡ b.rows) where
  abbrev left : ℕ → ℕ → Extent
  left = part_shape q a

  abbrev right : ℕ → ℕ → Extent
  right = part_shape q b

  abbrev first : ℕ → ℕ → Extent
  first = part_shape q (result_shape a b)

  abbrev At : ℕ → ℕ → State Extent → Type 0
  At n k state = AtStage shapes q left right first n k state

  abbrev Flow : State Extent → List Act → Type 0
  Flow state acts = Flows (q * q) none_shut state acts

  broadcasts_flow : (k : ℕ) (state : State Extent) → k < q → At k 0 state → Flow state (broadcasts q k)
  broadcasts_flow k state l at =
      let low = after_result k in
      let high = slots_exist k (omega arith) in
      let after = meaning shapes (rows shapes q k) state in
      flows-append (q * q) none_shut state (rows shapes q k) (columns shapes q k)
      (groups_flow (q * q) none_shut (λ s t. refl) (tagged (2 * k)) 0 (left_slot k) (omega arith) (omega arith) (row_group q) (λ i. i * q + k) (λ i. left i k) q (omega arith)
      (λ i h. row_root shapes q k l i (omega arith)) (row_exists q) (row_distinct q) state (λ i h. at.a i k h l))
      (groups_flow (q * q) none_shut (λ s t. refl) (tagged (2 * k + 1)) 1 (right_slot k) (omega arith) (omega arith) (column_group q) (λ j. k * q + j) (λ j. right k j) q (omega arith)
      (λ j h. column_root shapes q k l j (omega arith)) (column_exists q) (column_distinct q) after
      (λ j h. groups_stay shapes (row_group q) (λ i. i * q + k) (λ i. tagged (2 * k)) 0 (left_slot k) 0 q state (row_root shapes q k l) (k * q + j) 1 (omega arith) ∙ at.b k j l h))

  below : (n : ℕ) → n < 256 → nat_lt n 256 ≡ true
  below n l = grind (arith, nat_tests)

  yes : (n : ℕ) → (n == n) ≡ true
  yes n = grind (arith, nat_tests)

  zeros_flow : (state : State Extent) → Flow state (each_rank q (zero_op q 2 (result_shape a b)))
  zeros_flow state = each_flows q pos none_shut (zero_op q 2 (result_shape a b)) state (λ i j l h. record { exists = rank_below q i j l h; slots_exist = refl; filled = refl; agree = refl })

  products_flow : (k : ℕ) (state : State Extent) → k < q → At q k state → Flow state (products q k)
  products_flow k state m at = each_flows q pos none_shut (product_op k) state (λ i j l h.
      let has = at.blocks k m in
      let high = slots_exist k (omega arith) in
      let x : state (i * q + j) (left_slot k) ≡ Some (left i k) = has.a i j l h in
      let y : state (i * q + j) (right_slot k) ≡ Some (right k j) = has.b i j l h in
      let z : state (i * q + j) 2 ≡ Some (first i j) = at.total i j l h ∙ ap Some (stages_keep_shape (left i) (λ t. right t j) (first i j) k) in
      let inner : (part_length q a.cols k == part_length q b.rows k) ≡ true = rw agree (yes (part_length q b.rows k)) in
      record {
        exists = rank_below q i j l h;
        slots_exist = rw (below (left_slot k) (omega arith), below (right_slot k) (omega arith)) refl;
        filled = rw (x, y, z) refl;
        agree = rw (x, y, z) (rw (inner, yes (part_length q a.rows i), yes (part_length q b.cols j)) refl);
      })

  product_flows : (state : State Extent) → ((i j : ℕ) → i < q → j < q → state (i * q + j) 0 ≡ Some (left i j)) → ((i j : ℕ) → i < q → j < q → state (i * q + j) 1 ≡ Some (right i j)) → Flow state (product_acts q a b)
  product_flows state has_a has_b =
      let zeros = each_rank q (zero_op q 2 (result_shape a b)) in
      let one = meaning shapes zeros state in
      let at_one : At 0 0 one = at_start shapes q a b left right state has_a has_b in
      let two = meaning shapes (all_broadcasts q) one in
      let at_two : At q 0 two = all_arrive shapes q left right first one at_one in
      flows-append (q * q) none_shut state zeros (all_broadcasts q ++ all_products q) (zeros_flow state)
      (flows-append (q * q) none_shut one (all_broadcasts q) (all_products q)
      (flows_each (q * q) none_shut (broadcasts q) (λ k s. At k 0 s) q (λ k s l at. (broadcasts_flow k s l at, one_arrives shapes q left right first k s l at)) 0 q one (omega arith) at_one)
      (flows_each (q * q) none_shut (products q) (λ k s. At q k s) q (λ k s l at. (products_flow k s l at, one_adds shapes q left right first k s l at)) 0 q two (omega arith) at_two))

  -- the acts of the product flow from the starts of its operands
  pub product_flow : Flow (started (operand_starts q (factors a b))) (product_acts q a b)
  product_flow = product_flows (started (operand_starts q (factors a b))) (operand_parts q (factors a b) 0 a (λ r. refl)) (operand_parts q (factors a b) 1 b (λ r. refl))

  masks_flow : (state : State Extent) → At q q state → ((i j : ℕ) → i < q → j < q → state (i * q + j) 7 ≡ Some (first i j)) → Flow state (each_rank q mask_op)
  masks_flow state at has = each_flows q pos none_shut mask_op state (λ i j l h.
      let x : state (i * q + j) 7 ≡ Some (first i j) = has i j l h in
      let z : state (i * q + j) 2 ≡ Some (first i j) = at.total i j l h ∙ ap Some (stages_keep_shape (left i) (λ t. right t j) (first i j) q) in
      record { exists = rank_below q i j l h; slots_exist = refl; filled = rw (x, z) refl; agree = rw (x, z) (rw (yes (part_length q a.rows i), yes (part_length q b.cols j)) refl) })

  -- and those under a mask
  pub masked_flow : Flow (started (operand_starts q (masked_factors a b))) (product_acts q a b ++ each_rank q mask_op)
  masked_flow =
      let operands = masked_factors a b in
      let state = started (operand_starts q operands) in
      let after = meaning shapes (product_acts q a b) state in
      let has_a = operand_parts q operands 0 a (λ r. refl) in
      let has_b = operand_parts q operands 1 b (λ r. refl) in
      let at : At q q after = after_products shapes q a b left right state has_a has_b in
      flows-append (q * q) none_shut state (product_acts q a b) (each_rank q mask_op) (product_flows state has_a has_b)
      (masks_flow after at (λ i j l h. products_leave shapes q a b state (i * q + j) ∙ operand_parts q operands 7 (result_shape a b) (λ r. refl) i j l h))
