-- The acts of the product by a spread vector pass the check.
use Rattle.std.proofs.Common.{◌≡◌, ◌≢◌, ℕ, zero, suc, ◌+◌, ◌-◌, ◌*◌, ◌/◌, ◌%◌, ◌<◌, ◌≤◌, true, List, [], ◌∷◌, ◌++◌, map, length, inl, refl, sym, ap, subst, ◌∙◌, arith}
use Rattle.std.specs.Prelude.{Option, Some, is_some, nat_lt, nat_le, flat_map}
use Rattle.std.specs.List.{range_with_len}
use Rattle.std.proofs.lemmas.Bool.Decides.{nat_tests}
use Rattle.std.proofs.lemmas.List.FromFn.{length-map-range_with_len, get_or-map-range_with_len}
use Rattle.std.proofs.lemmas.Nat.{mod_below}
use Rattle.cb_matrix.specs.Sparse.{Extent}
use Rattle.cb_plan.specs.declared.acts.Op.{Op}
use Rattle.cb_plan.specs.declared.acts.Op.TheVariants as op_is
use Rattle.cb_plan.specs.declared.acts.Act.{Act}
use Rattle.cb_plan.specs.Meaning.{State}
use Rattle.cb_plan.specs.Algebras.{shapes}
use Rattle.cb_plan.specs.Checks.{none_shut, lanes_after}
use Rattle.cb_plan.proofs.PassingActs.{lanes_after-append}
use Rattle.cb_grid.specs.declared.TheConstants.{LARGEST_SIDE}
use Rattle.cb_grid.specs.Parts.{row_group, column_group, part, part_start, part_length, part_shape}
use Rattle.cb_grid.specs.Pieces.{piece_shape}
use Rattle.cb_grid.proofs.Parts.{rank_of, row_below}
use Rattle.cb_plan_parts.specs.Collectives.{member, sent_from}
use Rattle.cb_plan_parts.proofs.BroadcastCheck.{broadcast_passes, broadcast_keeps_lanes}
use Rattle.cb_plan_parts.proofs.SendCheck.{sends_keep_lanes, all_to_all_passes}
use Rattle.cb_plan_parts.specs.PlanParts.{tagged}
use Rattle.cb_plan_parts.specs.Flows.{Flows}
use Rattle.cb_plan_parts.proofs.Flows.{flows-append, flows_each}
use Rattle.cb_plan_parts.proofs.Grid.{in_column, column_exists, column_distinct, row_exists}
use Rattle.cb_plan_parts.proofs.PartStarts.{start_rises, start_within}
use Rattle.cb_plan_operations.specs.VectorPlans.{column, each_works, piece_broadcast, part_broadcasts, piece_broadcasts, add_piece, product_ops, piece_cut, exchange, exchanges, next_summand, sum_ops, products_at, cuts_at, spread_product_acts, exchange_tag}
use Rattle.cb_plan_operations.proofs.RankPrograms.{after_op, after_ops, CanDo, can_do_both, each_works_flow, lists_skip}
use Rattle.cb_plan_operations.proofs.VectorSteps.{yes, no, assembled, broadcast_skips, part_skips, pieces_add, adds_skip, exchange_skips}
use Rattle.cb_plan_operations.proofs.SpreadProduct.{after_pieces, after_products, after_cuts, after_exchanges, has_left, has_pieces, has_product, has_cuts, has_summands}

-- the test of a slot that exists holds
pub below : (n : ℕ) → n < 256 → nat_lt n 256 ≡ true
below n l = grind (arith, nat_tests)

-- what is added to stays of its shape
assembled_shape : (q : ℕ) (whole : Extent) (piece : ℕ → Extent) (k : ℕ) → assembled shapes q whole piece k ≡ whole
assembled_shape q whole piece zero = refl
assembled_shape q whole piece (suc k) = assembled_shape q whole piece k

-- ---- what one rank does
module _ (q rank : ℕ) (few : q ≤ LARGEST_SIDE) (exists : rank < q * q) where
  -- pieces that fit in their places are added
  can_add : (rows a m : ℕ) (slots : ℕ → Option Extent) → a + m ≤ q → slots 3 ≡ Some (column rows) → ((t : ℕ) → t < q → slots (10 + t) ≡ Some (column (part_length q rows t))) →
      CanDo (q * q) rank slots (flat_map (add_piece q (column rows)) (range_with_len a m))
  can_add rows a zero slots l whole has = tt
  can_add rows a (suc m) slots l whole has =
      let here : slots (10 + a) ≡ Some (column (part_length q rows a)) = has a (omega arith) in
      let up = start_rises q rows a in
      let inside = start_within q rows (a + 1) in
      let fits : nat_le (part_start q rows a + part_length q rows a) rows ≡ true = grind (arith, nat_tests) in
      let exist : nat_lt (10 + a) 256 ≡ true = below (10 + a) (omega arith) in
      let next : ℕ → Option Extent = after_ops shapes (add_piece q (column rows) a) slots in
      let kept : (t : ℕ) → next (10 + t) ≡ slots (10 + t) = λ t. adds_skip shapes q (column rows) (10 + t) (omega arith) (omega arith) a slots in
      let is : next 3 ≡ Some (column rows) = rw (whole, here) refl in (
        record { exists = exists; slots_exist = rw exist refl; filled = rw here refl; agree = rw (here, fits) refl },
        (
          record { exists = exists; slots_exist = refl; filled = rw (whole, here) refl; agree = rw (whole, here, yes rows) refl },
          can_add rows (a + 1) m next (omega arith) is (λ t h. kept t ∙ has t h),
        ),
      )

  -- the rank makes its part of the vector, and multiplies
  can_multiply : (height rows : ℕ) (slots : ℕ → Option Extent) → slots 0 ≡ Some (record { rows = height; cols = rows }) → ((t : ℕ) → t < q → slots (10 + t) ≡ Some (column (part_length q rows t))) →
      CanDo (q * q) rank slots (product_ops q (column rows))
  can_multiply height rows slots left has =
      let whole = column rows in
      let first : ℕ → Option Extent = after_op shapes (op_is.Zero 3 whole) slots in
      let pieces : List Op = flat_map (add_piece q whole) (range_with_len 0 q) in
      let second : ℕ → Option Extent = after_ops shapes pieces first in
      let has_first : (t : ℕ) → t < q → first (10 + t) ≡ Some (column (part_length q rows t)) = λ t l. rw (no 3 (10 + t) (let ne : 3 ≢ 10 + t = omega arith in ne)) (has t l) in
      let x : second 3 ≡ Some whole = pieces_add shapes q whole (λ t. column (part_length q rows t)) 0 q q first (omega arith) refl has_first ∙ ap Some (assembled_shape q whole (λ t. column (part_length q rows t)) q) in
      let y : second 0 ≡ Some (record { rows = height; cols = rows }) = lists_skip shapes (add_piece q whole) 0 (adds_skip shapes q whole 0 (omega arith) (omega arith)) 0 q first ∙ left in (
        record { exists = exists; slots_exist = refl; filled = refl; agree = refl },
        can_do_both (q * q) rank first pieces (op_is.MulVec 0 3 5 ∷ []) (can_add rows 0 q first (omega arith) refl has_first) (
          record { exists = exists; slots_exist = refl; filled = rw (y, x) refl; agree = rw (y, x, yes rows) refl },
          tt,
        ),
      )

  -- it cuts the product into pieces
  can_cut : (rows a m : ℕ) (slots : ℕ → Option Extent) → a + m ≤ q → slots 5 ≡ Some (column rows) → CanDo (q * q) rank slots (map (piece_cut q rows) (range_with_len a m))
  can_cut rows a zero slots l has = tt
  can_cut rows a (suc m) slots l has =
      let up = start_rises q rows a in
      let inside = start_within q rows (a + 1) in
      let rises : nat_le (part_start q rows a) (part_start q rows (a + 1)) ≡ true = grind (arith, nat_tests) in
      let fits : nat_le (part_start q rows (a + 1)) rows ≡ true = grind (arith, nat_tests) in
      let exist : nat_lt (80 + a) 256 ≡ true = below (80 + a) (omega arith) in
      let next : ℕ → Option Extent = after_op shapes (piece_cut q rows a) slots in
      let kept : next 5 ≡ slots 5 = rw (no (80 + a) 5 (let ne : 80 + a ≢ 5 = omega arith in ne)) refl in (
        record { exists = exists; slots_exist = rw exist refl; filled = rw has refl; agree = rw (has, rises, fits) refl },
        can_cut rows (a + 1) m next (omega arith) (kept ∙ has),
      )

  -- and adds up the pieces that it got
  can_add_up : (d : Extent) (a m : ℕ) (slots : ℕ → Option Extent) → a + m ≤ q - 1 → slots 2 ≡ Some d → ((s : ℕ) → s < q → slots (150 + s) ≡ Some d) → CanDo (q * q) rank slots (map next_summand (range_with_len a m))
  can_add_up d a zero slots l so_far has = tt
  can_add_up d a (suc m) slots l so_far has =
      let e : 151 + a ≡ 150 + suc a = omega arith in
      let here : slots (151 + a) ≡ Some d = ap slots e ∙ has (suc a) (omega arith) in
      let exist : nat_lt (151 + a) 256 ≡ true = below (151 + a) (omega arith) in
      let next : ℕ → Option Extent = after_op shapes (next_summand a) slots in
      let is : next 2 ≡ Some d = rw (so_far, here) refl in
      let kept : (s : ℕ) → next (150 + s) ≡ slots (150 + s) = λ s. rw (no 2 (150 + s) (let ne : 2 ≢ 150 + s = omega arith in ne)) refl in (
        record { exists = exists; slots_exist = rw exist refl; filled = rw (so_far, here) refl; agree = rw (so_far, here, yes d.rows, yes d.cols) refl },
        can_add_up d (a + 1) m next (omega arith) is (λ s h. kept s ∙ has s h),
      )

  pub can_sum : (d : Extent) (slots : ℕ → Option Extent) → 0 < q → ((s : ℕ) → s < q → slots (150 + s) ≡ Some d) → CanDo (q * q) rank slots (sum_ops q)
  can_sum d slots pos has =
      let first : slots 150 ≡ Some d = has 0 pos in
      let next : ℕ → Option Extent = after_op shapes (op_is.Copy 150 2) slots in (
        record { exists = exists; slots_exist = refl; filled = rw first refl; agree = refl },
        can_add_up d 0 (q - 1) next (omega arith) first (λ s h. rw (no 2 (150 + s) (let ne : 2 ≢ 150 + s = omega arith in ne)) (has s h)),
      )

-- ---- what all ranks do
module _ (q : ℕ) (pos : 0 < q) (few : q ≤ LARGEST_SIDE) (shape : Extent) where
  abbrev Flow : State Extent → List Act → Type 0
  Flow state acts = Flows (q * q) none_shut state acts

  module _ (piece : ℕ → ℕ → Extent) where
    -- each rank has its piece in slot 1
    abbrev HasPiece : State Extent → Type 0
    HasPiece state = (t j : ℕ) → t < q → j < q → state (t * q + j) 1 ≡ Some (piece j t)

    part_flow : (j : ℕ) → j < q → (state : State Extent) → HasPiece state → Flow state (part_broadcasts q j)
    part_flow j m state has =
        flows_each (q * q) none_shut (piece_broadcast q j) (λ _ st. HasPiece st) q
        (λ t st l own. (
          record {
            passes = broadcast_passes (q * q) (column_group q j) (t * q + j) (tagged t) 1 (10 + t) (piece j t) none_shut st
                (in_column q t j j l m m ∙ yes j) (column_distinct q j m) (column_exists q j m) (omega arith) (omega arith) (λ s t. refl) (own t j l m);
            lanes = broadcast_keeps_lanes (column_group q j) (t * q + j) (tagged t) 1 (10 + t) none_shut;
          },
          λ u k h b. broadcast_skips shapes q j t st l m (u * q + k) 1 (let ne : 10 + t ≢ 1 = omega arith in ne) ∙ own u k h b,
        )) 0 q state (omega arith) has

    -- the broadcasts of all pieces pass the check
    pub pieces_flow : (state : State Extent) → HasPiece state → Flow state (piece_broadcasts q)
    pieces_flow state has =
        flows_each (q * q) none_shut (part_broadcasts q) (λ _ st. HasPiece st) q
        (λ j st m own. (part_flow j m st own, λ u k h b. part_skips shapes q j st m (u * q + k) 1 (inl (omega arith)) ∙ own u k h b))
        0 q state (omega arith) has

  -- the slots from 80 on that are sent are filled
  abbrev HasCuts : State Extent → Type 0
  HasCuts state = (i t p : ℕ) → i < q → t < q → p < q → is_some (state (i * q + t) (80 + p)) ≡ true

  row_length : (i : ℕ) → length (row_group q i) ≡ q
  row_length i = length-map-range_with_len (λ j. i * q + j) 0 q

  exchange_lanes : (i a n : ℕ) → lanes_after (flat_map (λ s. sent_from (row_group q i) exchange_tag 80 (150 + s) s) (range_with_len a n)) none_shut ≡ none_shut
  exchange_lanes i a zero = refl
  exchange_lanes i a (suc n) =
      let members = row_group q i in
      lanes_after-append (sent_from members exchange_tag 80 (150 + a) a) (flat_map (λ s. sent_from members exchange_tag 80 (150 + s) s) (range_with_len (a + 1) n)) none_shut
      ∙ ap (lanes_after (flat_map (λ s. sent_from members exchange_tag 80 (150 + s) s) (range_with_len (a + 1) n)))
      (sends_keep_lanes (q * q) exchange_tag none_shut (λ s t. refl) (λ _. member members a) (member members) (λ k. 80 + k) (λ _. 150 + a) 0 (λ k l. absurd (omega arith)) 0 (length members))
      ∙ exchange_lanes i (a + 1) n

  exchange_flow : (i : ℕ) → i < q → (state : State Extent) → HasCuts state → Flow state (exchange q i)
  exchange_flow i m state has =
      let members = row_group q i in
      let count = row_length i in
      let there : (p : ℕ) → p < q → member members p ≡ i * q + p = λ p b. get_or-map-range_with_len (λ j. i * q + j) 0 q p p 0 b (omega arith) in
      record {
        passes = all_to_all_passes (q * q) members exchange_tag 80 150 none_shut (λ s t. refl) (row_exists q i m) (omega arith) (omega arith) state
            (λ p k l h. subst (λ r. is_some (state r (80 + k)) ≡ true) (sym (there p (omega arith))) (has i p k m (omega arith) (omega arith)));
        lanes = exchange_lanes i 0 (length members);
      }

  exchanges_flow : (state : State Extent) → HasCuts state → Flow state (exchanges q)
  exchanges_flow state has =
      flows_each (q * q) none_shut (exchange q) (λ _ st. HasCuts st) q
      (λ i st m own. (exchange_flow i m st own, λ u k p h b l. ap (λ x. is_some x) (exchange_skips shapes q few i st m (u * q + k) (80 + p) (omega arith)) ∙ own u k p h b l))
      0 q state (omega arith) has

  module _ (state : State Extent) (left : (i j : ℕ) → i < q → j < q → state (i * q + j) 0 ≡ Some (part_shape q shape i j)) (right : HasPiece (piece_shape q (column shape.cols)) state) where
    abbrev block : ℕ → ℕ → Extent
    block = part_shape q shape

    abbrev piece : ℕ → ℕ → Extent
    piece = piece_shape q (column shape.cols)

    abbrev second : State Extent
    second = after_pieces shapes q few shape state

    abbrev third : State Extent
    third = after_products shapes q few shape state

    abbrev fourth : State Extent
    fourth = after_cuts shapes q few shape state

    abbrev fifth : State Extent
    fifth = after_exchanges shapes q few shape state

    products_flow : Flow second (each_works q (products_at q shape))
    products_flow = each_works_flow q none_shut (products_at q shape) second (λ r l.
        let i = r / q in
        let j = r % q in
        let h = row_below q r l in
        let m = mod_below r q pos in
        let e = rank_of q r in
        can_multiply q r few l (part_length q shape.rows i) (part_length q shape.cols j) (second r)
        (subst (λ n. second n 0 ≡ Some (block i j)) e (has_left shapes q few shape state block piece left right i j h m))
        (λ t k. subst (λ n. second n (10 + t) ≡ Some (piece j t)) e (has_pieces shapes q few shape state block piece left right i j t h m k)))

    -- the shape of a product
    has_column : (i j : ℕ) → i < q → j < q → third (i * q + j) 5 ≡ Some (column (part_length q shape.rows i))
    has_column i j l m =
        has_product shapes q few shape state block piece left right i j l m
        ∙ ap (λ (x : Extent). Some (shapes.mul_vec (block i j) x)) (assembled_shape q (column (part_length q shape.cols j)) (piece j) q)

    cuts_flow : Flow third (each_works q (cuts_at q shape))
    cuts_flow = each_works_flow q none_shut (cuts_at q shape) third (λ r l.
        let i = r / q in
        let j = r % q in
        can_cut q r few l (part_length q shape.rows i) 0 q (third r) (omega arith)
        (subst (λ n. third n 5 ≡ Some (column (part_length q shape.rows i))) (rank_of q r) (has_column i j (row_below q r l) (mod_below r q pos))))

    sums_flow : Flow fifth (each_works q (λ _. sum_ops q))
    sums_flow = each_works_flow q none_shut (λ _. sum_ops q) fifth (λ r l.
        let i = r / q in
        let t = r % q in
        let width = part_length q (part_length q shape.rows i) t in
        can_sum q r few l (column width) (fifth r) pos
        (λ s k. subst (λ n. fifth n (150 + s) ≡ Some (column width)) (rank_of q r)
        (has_summands shapes q few shape state block piece left right i t s (row_below q r l) (mod_below r q pos) k
        ∙ ap (λ (x : Extent). Some (shapes.cut (part q (part_length q shape.rows i) t) (0, 1) (shapes.mul_vec (block i s) x))) (assembled_shape q (column (part_length q shape.cols s)) (piece s) q))))

    -- all acts of the product pass one after the other, and shut no lane
    pub spread_flow : Flow state (spread_product_acts q shape)
    spread_flow =
        let sums = each_works q (λ _. sum_ops q) in
        let cuts = each_works q (cuts_at q shape) in
        let products = each_works q (products_at q shape) in
        flows-append (q * q) none_shut state (piece_broadcasts q) (products ++ (cuts ++ (exchanges q ++ sums))) (pieces_flow piece state right)
        (flows-append (q * q) none_shut second products (cuts ++ (exchanges q ++ sums)) products_flow
        (flows-append (q * q) none_shut third cuts (exchanges q ++ sums) cuts_flow
        (flows-append (q * q) none_shut fourth (exchanges q) sums
        (exchanges_flow fourth (λ i t p l h k. ap (λ x. is_some x) (has_cuts shapes q few shape state block piece left right i t p l h k)))
        sums_flow)))
