-- The plans are far from the limit of a plan.
use Rattle.std.proofs.Common.{ℕ, ◌*◌, ◌≤◌, ◌++◌, length, length-append, arith}
use Rattle.std.proofs.lemmas.List.FromFn.{length-map-range_with_len}
use Rattle.cb_plan.specs.declared.acts.Op.{Op}
use Rattle.cb_plan.specs.declared.acts.Op.TheVariants as op_is
use Rattle.cb_plan.specs.declared.plans.TheConstants.{MOST_ACTS}
use Rattle.cb_grid.specs.declared.TheConstants.{LARGEST_SIDE}
use Rattle.cb_plan_parts.specs.Collectives.{sent, shut_acts}
use Rattle.cb_plan_parts.specs.PlanParts.{tagged, each_rank}
use Rattle.cb_plan_parts.proofs.Lengths.{squared, each_rank_at_most, shut_at_most}
use Rattle.cb_plan_operations.specs.GridPlans.{placewise_acts, mirrored, mirror_acts, transpose_acts}

module _ (q : ℕ) (few : q ≤ LARGEST_SIDE) where
  -- the plan of an operation at each rank, with all lanes shut, is within the limit
  pub placewise_at_most : (op : Op) → length (placewise_acts q op) ≤ MOST_ACTS
  placewise_at_most op =
      let x = length-append (each_rank q (λ _. op)) (shut_acts (q * q)) in
      let y = each_rank_at_most q few (λ _. op) in
      let z = shut_at_most q few in
      omega arith

  -- and so is that of a transpose
  pub transpose_at_most : length (transpose_acts q) ≤ MOST_ACTS
  transpose_at_most =
      let x = length-append (each_rank q (λ _. op_is.Transpose 0 1) ++ mirror_acts q) (shut_acts (q * q)) in
      let w = length-append (each_rank q (λ _. op_is.Transpose 0 1)) (mirror_acts q) in
      let y = each_rank_at_most q few (λ _. op_is.Transpose 0 1) in
      let m = length-map-range_with_len (λ r. sent r (mirrored q r) (tagged 0) 1 2) 0 (q * q) in
      let s = squared q few in
      let z = shut_at_most q few in
      omega arith
