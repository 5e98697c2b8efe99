-- How many acts there are at most.
use Rattle.std.proofs.Common.{◌≡◌, ℕ, zero, suc, ◌+◌, ◌-◌, ◌*◌, ◌≤◌, List, length, length-append, ap, ◌∙◌, arith}
use Rattle.std.specs.Prelude.{◌==◌}
use Rattle.std.specs.List.{range_with_len, flat_map}
use Rattle.std.proofs.lemmas.List.FromFn.{length-map-range_with_len}
use Rattle.std.proofs.lemmas.Nat.{mul-le}
use Rattle.std.proofs.Math.Nat.{add-mul, one-mul}
use Rattle.cb_letters.specs.declared.Tag.{Tag}
use Rattle.cb_grid.specs.declared.TheConstants.{LARGEST_SIDE}
use Rattle.cb_plan.specs.declared.acts.Op.{Op}
use Rattle.cb_plan.specs.declared.acts.Act.{Act}
use Rattle.cb_plan.specs.declared.acts.Act.TheVariants as act_is
use Rattle.cb_plan.proofs.Effects.{split}
use Rattle.cb_plan_parts.specs.Collectives.{broadcast_acts, copied_at, tree_move, tree_moves, turned, place_of, shut_acts}
use Rattle.cb_plan_parts.proofs.MemberPlaces.{turned_at-length}
use Rattle.cb_plan_parts.proofs.Counts.{count_shut}
use Rattle.cb_plan_parts.specs.PlanParts.{each_rank}

-- n lists, each of at most c acts
pub each_at_most : (f : ℕ → List Act) (c a n : ℕ) → ((k : ℕ) → length (f k) ≤ c) → length (flat_map f (range_with_len a n)) ≤ n * c
each_at_most f c a zero h = omega arith
each_at_most f c a (suc n) h =
    let x = length-append (f a) (flat_map f (range_with_len (a + 1) n)) in
    let y = each_at_most f c (a + 1) n h in
    let z = h a in
    let e : (n + 1) * c ≡ n * c + c = add-mul n 1 c ∙ ap (λ k. n * c + k) (one-mul c) in
    let f : suc n ≡ n + 1 = omega arith in
    let g : suc n * c ≡ (n + 1) * c = ap (λ k. k * c) f in
    omega arith

-- a broadcast has at most one act more than members
pub broadcast_at_most : (members : List ℕ) (root : ℕ) (tag : Tag) (slot into : ℕ) → length (broadcast_acts members root tag slot into) ≤ 1 + length members
broadcast_at_most members root tag slot into =
    let x = length-append (copied_at root slot into) (tree_moves (turned members root) tag slot into) in
    let y = length-map-range_with_len (tree_move (turned members root) tag slot into) 1 (length (turned members root) - 1) in
    let z = turned_at-length (place_of members root) members in
    let w : length (copied_at root slot into) ≤ 1 = split (slot == into) (λ t. rw t (omega arith)) (λ t. rw t (omega arith)) in
    omega arith

-- the most ranks of a grid
abbrev pub most_ranks : ℕ
most_ranks = LARGEST_SIDE * LARGEST_SIDE

-- the most lanes between them
abbrev pub most_lanes : ℕ
most_lanes = most_ranks * (most_ranks - 1)

module _ (q : ℕ) (few : q ≤ LARGEST_SIDE) where
  -- a grid has at most this many ranks
  pub squared : q * q ≤ most_ranks
  squared = mul-le q q LARGEST_SIDE LARGEST_SIDE few few

  -- an operation at each rank takes at most as many acts
  pub each_rank_at_most : (op : ℕ → Op) → length (each_rank q op) ≤ most_ranks
  each_rank_at_most op = let x = length-map-range_with_len (λ r. act_is.Work r (op r)) 0 (q * q) in let y = squared in omega arith

  -- there are at most this many lanes to shut
  pub shut_at_most : length (shut_acts (q * q)) ≤ most_lanes
  shut_at_most = let x = count_shut (q * q) in let y = mul-le (q * q) (q * q - 1) most_ranks (most_ranks - 1) squared (let s = squared in omega arith) in omega arith
