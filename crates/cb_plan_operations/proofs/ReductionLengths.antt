-- The plans of sums of columns and of rows are far from the limit of a plan.
use Rattle.std.proofs.Common.{ℕ, ◌+◌, ◌-◌, ◌*◌, ◌/◌, ◌%◌, ◌≤◌, ◌++◌, length, length-append, arith}
use Rattle.std.proofs.lemmas.List.FromFn.{length-map-range_with_len}
use Rattle.cb_matrix.specs.Sparse.{Extent}
use Rattle.cb_plan.specs.declared.acts.Op.TheVariants as op_is
use Rattle.cb_grid.specs.declared.TheConstants.{LARGEST_SIDE}
use Rattle.cb_grid.specs.Parts.{part, part_length}
use Rattle.cb_plan.specs.declared.plans.TheConstants.{MOST_ACTS}
use Rattle.cb_plan_parts.specs.Collectives.{sent, shut_acts}
use Rattle.cb_plan_parts.specs.PlanParts.{tagged, each_rank}
use Rattle.cb_plan_parts.proofs.Lengths.{most_ranks, squared, each_rank_at_most, shut_at_most}
use Rattle.cb_plan_operations.specs.GridPlans.{mirrored, mirror_acts}
use Rattle.cb_plan_operations.specs.VectorPlans.{each_works, piece_broadcasts, next_summand, sum_ops}
use Rattle.cb_plan_operations.specs.ReductionPlans.{own_cut, own_cuts, own_ops, own_sums, gathered_sums, column_sums_acts, turned_sums_acts, turn_back_acts, row_sums_acts, turned}
use Rattle.cb_plan_operations.proofs.VectorLengths.{most_for_pieces, most_ops, most_works, pieces_at_most, works_at_most}

module _ (q : ℕ) (few : q ≤ LARGEST_SIDE) where
  own_at_most : (rows : ℕ × ℕ) (width : ℕ) → length (own_ops q rows width) ≤ most_ops
  own_at_most rows width =
      let a = length-append (own_cuts q rows width) (sum_ops q) in
      let b = length-map-range_with_len (own_cut rows width) 0 q in
      let c = length-map-range_with_len next_summand 0 (q - 1) in
      omega arith

  gathered_at_most : (shape : Extent) → length (gathered_sums q shape) ≤ most_for_pieces + most_works
  gathered_at_most shape =
      let a = length-append (piece_broadcasts q) (each_works q (own_sums q shape)) in
      let b = pieces_at_most q few in
      let c = works_at_most q few (own_sums q shape) most_ops (omega arith) (λ r. own_at_most (part q 1 (r / q)) (part_length q shape.cols (r % q))) in
      omega arith

  mirror_at_most : length (mirror_acts q) ≤ most_ranks
  mirror_at_most =
      let m = length-map-range_with_len (λ r. sent r (mirrored q r) (tagged 0) 1 2) 0 (q * q) in
      let s = squared q few in
      omega arith

  -- the plan of the sums of columns, with all lanes shut, is within the limit
  pub column_sums_at_most : (shape : Extent) → length (column_sums_acts q shape ++ shut_acts (q * q)) ≤ MOST_ACTS
  column_sums_at_most shape =
      let a = length-append (column_sums_acts q shape) (shut_acts (q * q)) in
      let b = length-append (each_rank q (λ _. op_is.ColumnSums 0 1)) (gathered_sums q shape) in
      let c = each_rank_at_most q few (λ _. op_is.ColumnSums 0 1) in
      let d = gathered_at_most shape in
      let e = shut_at_most q few in
      omega arith

  -- and so is that of the sums of rows
  pub row_sums_at_most : (shape : Extent) → length (row_sums_acts q shape ++ shut_acts (q * q)) ≤ MOST_ACTS
  row_sums_at_most shape =
      let turns = each_rank q (λ _. op_is.Transpose 0 1) in
      let sums = each_rank q (λ _. op_is.ColumnSums 1 1) in
      let copies = each_rank q (λ _. op_is.Copy 2 1) in
      let back = each_rank q (λ _. op_is.Transpose 2 1) in
      let a = length-append (row_sums_acts q shape) (shut_acts (q * q)) in
      let b = length-append (turned_sums_acts q) (gathered_sums q (turned shape) ++ turn_back_acts q) in
      let c = length-append (gathered_sums q (turned shape)) (turn_back_acts q) in
      let d = length-append turns (sums ++ (mirror_acts q ++ copies)) in
      let e = length-append sums (mirror_acts q ++ copies) in
      let f = length-append (mirror_acts q) copies in
      let g = length-append back (mirror_acts q) in
      let h = each_rank_at_most q few (λ _. op_is.Transpose 0 1) in
      let i = each_rank_at_most q few (λ _. op_is.ColumnSums 1 1) in
      let j = each_rank_at_most q few (λ _. op_is.Copy 2 1) in
      let k = each_rank_at_most q few (λ _. op_is.Transpose 2 1) in
      let m = mirror_at_most in
      let n = gathered_at_most (turned shape) in
      let o = shut_at_most q few in
      omega arith
