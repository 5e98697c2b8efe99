-- One operation of each rank, which reads slots 0 and 1 and sets slot 2.
use Rattle.std.proofs.Common.{◌≡◌, ◌≢◌, ℕ, ◌+◌, ◌*◌, ◌<◌, true, refl, sym, ap, ◌∙◌, arith}
use Rattle.std.specs.Prelude.{Some, ◌==◌}
use Rattle.std.proofs.lemmas.Bool.Decides.{nat_tests}
use Rattle.cb_semirings.specs.Arithmetic.{Arithmetic}
use Rattle.cb_matrix.specs.Sparse.{Sparse, Extent}
use Rattle.cb_matrix.specs.Operations.{sum_of, times_of, pruned}
use Rattle.cb_matrix.specs.declared.passing.Test.{Test}
use Rattle.cb_matrix.specs.Passing.{passes}
use Rattle.cb_plan.specs.declared.acts.Op.{Op}
use Rattle.cb_plan.specs.declared.acts.Op.TheVariants as op_is
use Rattle.cb_plan.specs.Meaning.{State, meaning, one, two, target_of, result_of}
use Rattle.cb_plan.specs.Algebras.{matrices}
use Rattle.cb_plan.specs.Checks.{started, none_shut}
use Rattle.cb_plan.proofs.Effects.{meaning-append}
use Rattle.cb_grid.specs.Parts.{part_shape, part_length}
use Rattle.cb_grid.specs.Blocks.{block_of}
use Rattle.cb_grid.proofs.Parts.{rank_below}
use Rattle.cb_plan_parts.specs.Collectives.{shut_acts}
use Rattle.cb_plan_parts.proofs.ShutMeaning.{shut_nothing}
use Rattle.cb_plan_parts.specs.PlanParts.{each_rank, operand_starts}
use Rattle.cb_plan_parts.specs.Flows.{Flows}
use Rattle.cb_plan_parts.proofs.Everywhere.{each_here, each_elsewhere}
use Rattle.cb_plan_parts.proofs.Flows.{each_flows}
use Rattle.cb_plan_parts.proofs.Starts.{operand_parts}
use Rattle.cb_plan_operations.specs.GridPlans.{one_operand, two_operands, placewise_acts, Leaves, IsSumPlan, IsTimesPlan, IsPrunePlan}
use Rattle.cb_plan_operations.proofs.ResultBlocks.{sum_of_blocks, times_of_blocks, pruned_block}

-- what the plan leaves in a slot
pub placewise_means : (s : Arithmetic) (q : ℕ) (op : Op) (state : State Sparse) → meaning (matrices s) (placewise_acts q op) state ≡ meaning (matrices s) (each_rank q (λ _. op)) state
placewise_means s q op state =
    meaning-append (matrices s) (each_rank q (λ _. op)) (shut_acts (q * q)) state ∙ shut_nothing (matrices s) (q * q) (meaning (matrices s) (each_rank q (λ _. op)) state)

-- an operation that sets slot 2 to the part of a matrix
leaves : (s : Arithmetic) (q : ℕ) (op : Op) (state : State Sparse) (m : Sparse) → target_of op ≡ 2 →
    ((i j : ℕ) → i < q → j < q → result_of (matrices s) op (state (i * q + j)) ≡ Some (block_of s q m i j)) → Leaves s q (placewise_acts q op) state m
leaves s q op state m two_is has = record {
  parts = λ i j l h.
      ap (λ x. x (i * q + j) 2) (placewise_means s q op state)
      ∙ ap (meaning (matrices s) (each_rank q (λ _. op)) state (i * q + j)) (sym two_is)
      ∙ each_here (matrices s) q (λ _. op) state i j l h
      ∙ has i j l h;
  kept = λ r.
      let ne : target_of op ≢ 0 = omega arith in
      ap (λ x. x r 0) (placewise_means s q op state) ∙ each_elsewhere (matrices s) q (λ _. op) state r 0 ne;
}

-- an Add at each rank leaves the sum of two matrices
pub is_sum_plan : (q : ℕ) (shape : Extent) → IsSumPlan (placewise_acts q (op_is.Add 0 1 2)) q shape
is_sum_plan q shape s a b e f state has_a has_b = leaves s q (op_is.Add 0 1 2) state (sum_of s a b) refl (λ i j l h.
    ap (λ x. two (sum_of s) x (state (i * q + j) 1)) (has_a i j l h)
    ∙ ap (λ x. two (sum_of s) (Some (block_of s q a i j)) x) (has_b i j l h)
    ∙ ap Some (sum_of_blocks s q a b (f ∙ sym e) i j))

-- a Times at each rank leaves their product, place by place
pub is_times_plan : (q : ℕ) (shape : Extent) → IsTimesPlan (placewise_acts q (op_is.Times 0 1 2)) q shape
is_times_plan q shape s a b e f state has_a has_b = leaves s q (op_is.Times 0 1 2) state (times_of s a b) refl (λ i j l h.
    ap (λ x. two (times_of s) x (state (i * q + j) 1)) (has_a i j l h)
    ∙ ap (λ x. two (times_of s) (Some (block_of s q a i j)) x) (has_b i j l h)
    ∙ ap Some (times_of_blocks s q a b (f ∙ sym e) i j))

-- a Prune at each rank leaves what a matrix has without the entries that pass the test
pub is_prune_plan : (q : ℕ) (shape : Extent) (test : Test) → IsPrunePlan (placewise_acts q (op_is.Prune 0 test 2)) q shape test
is_prune_plan q shape test s a e state has_a = leaves s q (op_is.Prune 0 test 2) state (pruned s (passes test) a) refl (λ i j l h.
    ap (one (pruned s (passes test))) (has_a i j l h)
    ∙ ap Some (pruned_block s q (passes test) a i j))

yes : (n : ℕ) → (n == n) ≡ true
yes n = grind (arith, nat_tests)

-- ranks that have the parts of two matrices of one shape can add and multiply them
module _ (q : ℕ) (pos : 0 < q) (a : Extent) (state : State Extent) (left : (i j : ℕ) → i < q → j < q → state (i * q + j) 0 ≡ Some (part_shape q a i j)) (right : (i j : ℕ) → i < q → j < q → state (i * q + j) 1 ≡ Some (part_shape q a i j)) where
  sums_flow_from : Flows (q * q) none_shut state (each_rank q (λ _. op_is.Add 0 1 2))
  sums_flow_from = each_flows q pos none_shut (λ _. op_is.Add 0 1 2) state (λ i j l h.
      let x : state (i * q + j) 0 ≡ Some (part_shape q a i j) = left i j l h in
      let y : state (i * q + j) 1 ≡ Some (part_shape q a i j) = right i j l h in
      record {
        exists = rank_below q i j l h;
        slots_exist = refl;
        filled = rw (x, y) refl;
        agree = rw (x, y) (rw (yes (part_length q a.rows i), yes (part_length q a.cols j)) refl);
      })

  products_flow_from : Flows (q * q) none_shut state (each_rank q (λ _. op_is.Times 0 1 2))
  products_flow_from = each_flows q pos none_shut (λ _. op_is.Times 0 1 2) state (λ i j l h.
      let x : state (i * q + j) 0 ≡ Some (part_shape q a i j) = left i j l h in
      let y : state (i * q + j) 1 ≡ Some (part_shape q a i j) = right i j l h in
      record {
        exists = rank_below q i j l h;
        slots_exist = refl;
        filled = rw (x, y) refl;
        agree = rw (x, y) (rw (yes (part_length q a.rows i), yes (part_length q a.cols j)) refl);
      })

-- and those that have the parts of one can drop entries
prunes_flow_from : (q : ℕ) → 0 < q → (a : Extent) (test : Test) (state : State Extent) → ((i j : ℕ) → i < q → j < q → state (i * q + j) 0 ≡ Some (part_shape q a i j)) → Flows (q * q) none_shut state (each_rank q (λ _. op_is.Prune 0 test 2))
prunes_flow_from q pos a test state left = each_flows q pos none_shut (λ _. op_is.Prune 0 test 2) state (λ i j l h.
    let x : state (i * q + j) 0 ≡ Some (part_shape q a i j) = left i j l h in
    record { exists = rank_below q i j l h; slots_exist = refl; filled = rw x refl; agree = refl })

-- so from the operands they can
module _ (q : ℕ) (pos : 0 < q) (a : Extent) where
  -- each rank can add its parts of two operands
  pub sums_flow : Flows (q * q) none_shut (started (operand_starts q (two_operands a))) (each_rank q (λ _. op_is.Add 0 1 2))
  sums_flow = sums_flow_from q pos a (started (operand_starts q (two_operands a))) (operand_parts q (two_operands a) 0 a (λ r. refl)) (operand_parts q (two_operands a) 1 a (λ r. refl))

  -- each can multiply them, place by place
  pub products_flow : Flows (q * q) none_shut (started (operand_starts q (two_operands a))) (each_rank q (λ _. op_is.Times 0 1 2))
  products_flow = products_flow_from q pos a (started (operand_starts q (two_operands a))) (operand_parts q (two_operands a) 0 a (λ r. refl)) (operand_parts q (two_operands a) 1 a (λ r. refl))

  -- each can prune its part of one operand
  pub prunes_flow : (test : Test) → Flows (q * q) none_shut (started (operand_starts q (one_operand a))) (each_rank q (λ _. op_is.Prune 0 test 2))
  prunes_flow test = prunes_flow_from q pos a test (started (operand_starts q (one_operand a))) (operand_parts q (one_operand a) 0 a (λ r. refl))
