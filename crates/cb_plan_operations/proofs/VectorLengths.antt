-- The plan of the product by a spread vector is far from the limit of a plan.
use Rattle.std.proofs.Common.{◌≡◌, ℕ, ◌+◌, ◌-◌, ◌*◌, ◌/◌, ◌%◌, ◌≤◌, List, [], ◌∷◌, ◌++◌, length, length-append, ap, arith}
use Rattle.std.specs.List.{range_with_len, flat_map}
use Rattle.std.proofs.lemmas.List.{length-map}
use Rattle.std.proofs.lemmas.List.FromFn.{length-map-range_with_len}
use Rattle.std.proofs.lemmas.Nat.{mul-le}
use Rattle.cb_matrix.specs.Sparse.{Extent}
use Rattle.cb_plan.specs.declared.acts.Op.{Op}
use Rattle.cb_plan.specs.declared.acts.Op.TheVariants as op_is
use Rattle.cb_plan.specs.declared.acts.Act.TheVariants as act_is
use Rattle.cb_grid.specs.declared.TheConstants.{LARGEST_SIDE}
use Rattle.cb_grid.specs.Parts.{row_group, column_group, part_length}
use Rattle.cb_plan.specs.declared.plans.TheConstants.{MOST_ACTS}
use Rattle.cb_plan_parts.specs.Collectives.{shut_acts}
use Rattle.cb_plan_parts.proofs.Counts.{count_all_to_all}
use Rattle.cb_plan_parts.proofs.Lengths.{most_ranks, squared, each_at_most, broadcast_at_most, shut_at_most}
use Rattle.cb_plan_operations.specs.VectorPlans.{column, exchange_tag, works, each_works, piece_broadcast, part_broadcasts, piece_broadcasts, add_piece, product_ops, piece_cut, cut_ops, exchange, exchanges, next_summand, sum_ops, products_at, cuts_at, spread_product_acts, vector_acts}
use Rattle.cb_plan_operations.proofs.Loops.{works_lists}

-- as many acts as operations
works_count : (r : ℕ) (ops : List Op) → length (works r ops) ≡ length ops
works_count r ops = length-map ops (λ op. act_is.Work r op)

-- the most acts by which a piece comes to its column of ranks, and those of all pieces of a part
abbrev most_for_piece : ℕ
most_for_piece = LARGEST_SIDE + 1

abbrev most_for_part : ℕ
most_for_part = LARGEST_SIDE * most_for_piece

-- the most acts by which all pieces come to their ranks
abbrev pub most_for_pieces : ℕ
most_for_pieces = LARGEST_SIDE * most_for_part

-- the most operations that a rank does in one step, and those of all ranks
abbrev pub most_ops : ℕ
most_ops = 2 * (LARGEST_SIDE + 1)

abbrev pub most_works : ℕ
most_works = most_ranks * most_ops

module _ (q : ℕ) (few : q ≤ LARGEST_SIDE) where
  -- all pieces come to their ranks in at most as many acts
  pub pieces_at_most : length (piece_broadcasts q) ≤ most_for_pieces
  pieces_at_most =
      let each : (j t : ℕ) → length (piece_broadcast q j t) ≤ most_for_piece = λ j t.
      let l = length-map-range_with_len (λ i. i * q + j) 0 q in
      let b : length (piece_broadcast q j t) ≤ 1 + length (column_group q j) = broadcast_at_most (column_group q j) _ _ _ _ in
      omega arith in
      let part : (j : ℕ) → length (part_broadcasts q j) ≤ most_for_part = λ j. let h = each_at_most (piece_broadcast q j) most_for_piece 0 q (each j) in omega arith in
      let h = each_at_most (part_broadcasts q) most_for_part 0 q part in
      omega arith

  -- and so many operations of each rank are at most as many acts
  pub works_at_most : (ops : ℕ → List Op) (c : ℕ) → c ≤ most_ops → ((r : ℕ) → length (ops r) ≤ c) → length (each_works q ops) ≤ most_works
  works_at_most ops c small each =
      let h = each_at_most (λ r. works r (ops r)) c 0 (q * q) (λ r. let e = works_count r (ops r) in let l = each r in omega arith) in
      let m = mul-le (q * q) c most_ranks most_ops (squared q few) small in
      omega arith

  product_at_most : (whole : Extent) → length (product_ops q whole) ≤ most_ops
  product_at_most whole =
      let pieces : List Op = flat_map (add_piece q whole) (range_with_len 0 q) in
      let x = length-append pieces (op_is.MulVec 0 3 5 ∷ []) in
      let e = works_count 0 pieces in
      let f = ap length (works_lists 0 (add_piece q whole) (range_with_len 0 q)) in
      let h = each_at_most (λ t. works 0 (add_piece q whole t)) 2 0 q (λ t. omega arith) in
      omega arith

  cuts_at_most : (rows : ℕ) → length (cut_ops q rows) ≤ most_ops
  cuts_at_most rows = let e = length-map-range_with_len (piece_cut q rows) 0 q in omega arith

  sums_at_most : length (sum_ops q) ≤ most_ops
  sums_at_most = let e = length-map-range_with_len next_summand 0 (q - 1) in omega arith

  exchanges_at_most : length (exchanges q) ≤ LARGEST_SIDE * most_ranks
  exchanges_at_most =
      let each : (i : ℕ) → length (exchange q i) ≤ most_ranks = λ i.
      let l = length-map-range_with_len (λ j. i * q + j) 0 q in
      let c = count_all_to_all (row_group q i) exchange_tag 80 150 in
      let m = mul-le (length (row_group q i)) (length (row_group q i)) LARGEST_SIDE LARGEST_SIDE (omega arith) (omega arith) in
      omega arith in
      let h = each_at_most (exchange q) most_ranks 0 q each in
      omega arith

  -- the plan of the product with a vector, with all lanes shut, is within the limit
  pub vector_at_most : (shape : Extent) → length (vector_acts q shape) ≤ MOST_ACTS
  vector_at_most shape =
      let sums = each_works q (λ _. sum_ops q) in
      let cuts = each_works q (cuts_at q shape) in
      let products = each_works q (products_at q shape) in
      let a = length-append (spread_product_acts q shape) (shut_acts (q * q)) in
      let b = length-append (piece_broadcasts q) (products ++ (cuts ++ (exchanges q ++ sums))) in
      let c = length-append products (cuts ++ (exchanges q ++ sums)) in
      let d = length-append cuts (exchanges q ++ sums) in
      let e = length-append (exchanges q) sums in
      let f = pieces_at_most in
      let g = works_at_most (products_at q shape) most_ops (omega arith) (λ r. product_at_most (column (part_length q shape.cols (r % q)))) in
      let h = works_at_most (cuts_at q shape) most_ops (omega arith) (λ r. cuts_at_most (part_length q shape.rows (r / q))) in
      let i = exchanges_at_most in
      let j = works_at_most (λ _. sum_ops q) most_ops (omega arith) (λ _. sums_at_most) in
      let k = shut_at_most q few in
      omega arith
