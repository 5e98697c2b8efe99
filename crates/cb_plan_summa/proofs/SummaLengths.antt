-- The plans are far from the limit of a plan.
use Rattle.std.proofs.Common.{ℕ, ◌+◌, ◌*◌, ◌≤◌, ◌++◌, length, length-append, arith}
use Rattle.std.specs.List.{range_with_len, flat_map}
use Rattle.std.proofs.lemmas.List.FromFn.{length-map-range_with_len}
use Rattle.cb_matrix.specs.Sparse.{Extent}
use Rattle.cb_plan.specs.declared.plans.TheConstants.{MOST_ACTS}
use Rattle.cb_plan_parts.specs.Collectives.{shut_acts}
use Rattle.cb_grid.specs.declared.TheConstants.{LARGEST_SIDE}
use Rattle.cb_grid.specs.Parts.{row_group, column_group}
use Rattle.cb_plan_parts.specs.PlanParts.{zero_op, each_rank}
use Rattle.cb_plan_parts.proofs.Lengths.{most_ranks, each_at_most, broadcast_at_most, each_rank_at_most, shut_at_most}
use Rattle.cb_plan_summa.specs.Summa.{row_broadcast, column_broadcast, broadcasts, products, all_broadcasts, all_products, product_op, mask_op, product_acts, summa_acts, summa_masked_acts, result_shape}

-- the most acts of a stage's broadcasts
abbrev most_broadcasts : ℕ
most_broadcasts = 2 * (LARGEST_SIDE * (LARGEST_SIDE + 1))

-- the most acts of all stages, with a first one at each rank
abbrev most_products : ℕ
most_products = most_ranks + LARGEST_SIDE * (most_broadcasts + most_ranks)

module _ (q : ℕ) (few : q ≤ LARGEST_SIDE) where
  broadcasts_at_most : (k : ℕ) → length (broadcasts q k) ≤ most_broadcasts
  broadcasts_at_most k =
      let x = length-append (flat_map (row_broadcast q k) (range_with_len 0 q)) (flat_map (column_broadcast q k) (range_with_len 0 q)) in
      let rows = each_at_most (row_broadcast q k) (LARGEST_SIDE + 1) 0 q (λ i. let l = length-map-range_with_len (λ j. i * q + j) 0 q in let b : length (row_broadcast q k i) ≤ 1 + length (row_group q i) = broadcast_at_most (row_group q i) _ _ _ _ in omega arith) in
      let columns = each_at_most (column_broadcast q k) (LARGEST_SIDE + 1) 0 q (λ j. let l = length-map-range_with_len (λ i. i * q + j) 0 q in let b : length (column_broadcast q k j) ≤ 1 + length (column_group q j) = broadcast_at_most (column_group q j) _ _ _ _ in omega arith) in
      omega arith

  product_at_most : (a b : Extent) → length (product_acts q a b) ≤ most_products
  product_at_most a b =
      let x = length-append (each_rank q (zero_op q 2 (result_shape a b))) (all_broadcasts q ++ all_products q) in
      let y = length-append (all_broadcasts q) (all_products q) in
      let z = each_rank_at_most q few (zero_op q 2 (result_shape a b)) in
      let b = each_at_most (broadcasts q) most_broadcasts 0 q broadcasts_at_most in
      let p = each_at_most (products q) most_ranks 0 q (λ k. each_rank_at_most q few (product_op k)) in
      omega arith

  -- the plan of a product is within the limit
  pub summa_at_most : (a b : Extent) → length (summa_acts q a b) ≤ MOST_ACTS
  summa_at_most a b =
      let x = length-append (product_acts q a b) (shut_acts (q * q)) in
      let y = product_at_most a b in
      let z = shut_at_most q few in
      omega arith

  -- and so it is under a mask
  pub summa_masked_at_most : (a b : Extent) → length (summa_masked_acts q a b) ≤ MOST_ACTS
  summa_masked_at_most a b =
      let x = length-append (product_acts q a b ++ each_rank q mask_op) (shut_acts (q * q)) in
      let w = length-append (product_acts q a b) (each_rank q mask_op) in
      let y = product_at_most a b in
      let m = each_rank_at_most q few mask_op in
      let z = shut_at_most q few in
      omega arith
