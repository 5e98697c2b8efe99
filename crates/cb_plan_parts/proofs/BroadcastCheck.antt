-- Acts that pass the check, and the lanes after them.
use Rattle.std.proofs.Common.{◌≡◌, ◌≢◌, ℕ, zero, suc, ◌+◌, ◌-◌, ◌/◌, ◌<◌, ◌≤◌, true, false, List, map, length, get_or, refl, sym, ap, ◌∙◌, arith}
use Rattle.std.specs.Prelude.{Some, ◌==◌, ◌&&◌, if◌then◌else◌, nat_lt}
use Rattle.std.specs.List.{range_with_len}
use Rattle.std.proofs.lemmas.Bool.Decides.{nat_tests}
use Rattle.cb_letters.specs.declared.Tag.{Tag}
use Rattle.cb_matrix.specs.Sparse.{Extent}
use Rattle.cb_plan.specs.declared.acts.Op.TheVariants as op_is
use Rattle.cb_plan.specs.declared.acts.Act.TheVariants as act_is
use Rattle.cb_plan.specs.Meaning.{State, act}
use Rattle.cb_plan.specs.Algebras.{shapes}
use Rattle.cb_plan.specs.Checks.{Lanes, IsSound, Passes, lanes_after}
use Rattle.cb_plan.proofs.Effects.{split}
use Rattle.cb_plan.proofs.PassingActs.{move_is_sound}
use Rattle.cb_plan_parts.specs.Collectives.{is_member, AreDistinct, member, place_of, turned, tree_move, tree_moves, broadcast_acts}
use Rattle.cb_plan_parts.proofs.MemberPlaces.{place-below, member-place_of, turned-begins, turned_at-length, turned-below, turned-differ}
use Rattle.cb_plan_parts.proofs.Spread.{moved}

-- a copy of a slot that is filled
pub copy_is_sound : (ranks : ℕ) (state : State Extent) (shut : Lanes) (rank slot into : ℕ) (v : Extent) → rank < ranks → slot < 256 → into < 256 → state rank slot ≡ Some v → IsSound ranks state shut (act_is.Work rank (op_is.Copy slot into))
copy_is_sound ranks state shut rank slot into v a b c d = record {
  ranks_exist = let x : nat_lt rank ranks ≡ true = grind (arith, nat_tests) in rw x refl;
  apart = refl;
  slots_exist = let x : nat_lt slot 256 ≡ true = grind (arith, nat_tests) in let y : nat_lt into 256 ≡ true = grind (arith, nat_tests) in rw (x, y) refl;
  filled = rw d refl;
  agree = refl;
  open_lane = refl;
}

-- the moves of a tree pass if the members differ
module _ (ranks : ℕ) (ms : List ℕ) (tag : Tag) (slot into : ℕ) (v : Extent) (shut : Lanes) (open_lanes : (s t : ℕ) → shut s t ≡ false)
    (exist : (p : ℕ) → p < length ms → get_or ms p 0 < ranks) (differ : (p q : ℕ) → p < q → q < length ms → get_or ms p 0 ≢ get_or ms q 0) (slot_exists : slot < 256) (into_exists : into < 256) where
  moves_pass : (a n : ℕ) (state : State Extent) → 1 ≤ a → a + n ≤ length ms →
      ((q : ℕ) → q < a → state (get_or ms q 0) into ≡ Some v) → state (get_or ms 0 0) slot ≡ Some v → Passes ranks state shut (map (tree_move ms tag slot into) (range_with_len a n))
  moves_pass a zero state pos l has first = tt
  moves_pass a (suc n) state pos l has first =
      let step = moved shapes ms tag slot into (Some v) a state pos has first in
      let parent : (a - 1) / 2 < a = omega arith in
      let sends : ℕ = if (a - 1) / 2 == 0 then slot else into in
      let sent : state (get_or ms ((a - 1) / 2) 0) sends ≡ Some v =
      split ((a - 1) / 2 == 0)
      (λ t. let e : (a - 1) / 2 ≡ 0 = grind (arith, nat_tests) in rw (t, e) first)
      (λ f. rw f (has ((a - 1) / 2) parent)) in
      let below : sends < 256 = split ((a - 1) / 2 == 0) (λ t. rw t slot_exists) (λ f. rw f into_exists) in
      let next = act shapes (tree_move ms tag slot into a) state in
      let has' : (q : ℕ) → q < a + 1 → next (get_or ms q 0) into ≡ Some v = λ q m. step (get_or ms q 0) into ∙
      split (get_or ms a 0 == get_or ms q 0)
      (λ t. let e : (into == into) ≡ true = grind (arith, nat_tests) in rw (t, e) refl)
      (λ f. rw f (has q (split (q == a) (λ t. let e : q ≡ a = grind (arith, nat_tests) in let g : (get_or ms a 0 == get_or ms q 0) ≡ true = rw e (grind (arith, nat_tests)) in grind (arith, nat_tests)) (λ g. grind (arith, nat_tests))))) in
      let first' : next (get_or ms 0 0) slot ≡ Some v = step (get_or ms 0 0) slot ∙ split (get_or ms a 0 == get_or ms 0 0 && into == slot) (λ t. rw t refl) (λ f. rw f first) in (
        move_is_sound ranks state shut (get_or ms ((a - 1) / 2) 0) (get_or ms a 0) tag sends into v (exist ((a - 1) / 2) (omega arith)) (exist a (omega arith)) (differ ((a - 1) / 2) a parent (omega arith)) below into_exists sent (open_lanes (get_or ms ((a - 1) / 2) 0) (get_or ms a 0)),
        moves_pass (a + 1) n next (omega arith) (omega arith) has' first',
      )

-- a broadcast passes if the members are distinct ranks, the root's slot is filled and the lanes are open
pub broadcast_passes : (ranks : ℕ) (members : List ℕ) (root : ℕ) (tag : Tag) (slot into : ℕ) (v : Extent) (shut : Lanes) (state : State Extent) →
    is_member members root ≡ true → AreDistinct members → ((p : ℕ) → p < length members → member members p < ranks) → slot < 256 → into < 256 →
    ((s t : ℕ) → shut s t ≡ false) → state root slot ≡ Some v → Passes ranks state shut (broadcast_acts members root tag slot into)
broadcast_passes ranks members root tag slot into v shut state there distinct below slot_exists into_exists open_lanes filled =
    let ms = turned members root in
    let begins = turned-begins members root there in
    let same_length : length ms ≡ length members = turned_at-length (place_of members root) members in
    let place = place-below members root there in
    let first : get_or ms 0 0 ≡ root = ap (λ xs. get_or xs 0 0) begins.1 in
    let root_below : root < ranks = let l = below (place_of members root) place in let e = member-place_of members root there in omega arith in
    let pass : (st : State Extent) → st root into ≡ Some v → st root slot ≡ Some v → Passes ranks st shut (tree_moves ms tag slot into) =
    λ st has held. moves_pass ranks ms tag slot into v shut open_lanes
    (turned-below members root ranks below place) (turned-differ members root distinct place) slot_exists into_exists 1 (length ms - 1) st (omega arith) (omega arith)
    (λ q l. let e : q ≡ 0 = omega arith in rw (e, first) has) (rw first held) in
    split (slot == into)
    (λ t. let e : slot ≡ into = grind (arith, nat_tests) in rw t (pass state (ap (state root) (sym e) ∙ filled) filled))
    (λ f.
    let own : (root == root) ≡ true = grind (arith, nat_tests) in
    let same : (into == into) ≡ true = grind (arith, nat_tests) in
    let apart : (into == slot) ≡ false = grind (arith, nat_tests) in
    rw f (
      copy_is_sound ranks state shut root slot into v root_below slot_exists into_exists filled,
      pass (act shapes (act_is.Work root (op_is.Copy slot into)) state) (rw (own, same) filled) (rw (own, apart) filled),
    ))

moves_keep_lanes : (ms : List ℕ) (tag : Tag) (slot into a n : ℕ) (shut : Lanes) → lanes_after (map (tree_move ms tag slot into) (range_with_len a n)) shut ≡ shut
moves_keep_lanes ms tag slot into a zero shut = refl
moves_keep_lanes ms tag slot into a (suc n) shut = moves_keep_lanes ms tag slot into (a + 1) n shut

-- a broadcast shuts no lane
pub broadcast_keeps_lanes : (members : List ℕ) (root : ℕ) (tag : Tag) (slot into : ℕ) (shut : Lanes) → lanes_after (broadcast_acts members root tag slot into) shut ≡ shut
broadcast_keeps_lanes members root tag slot into shut =
    let ms = turned members root in
    split (slot == into)
    (λ t. rw t (moves_keep_lanes ms tag slot into 1 (length ms - 1) shut))
    (λ f. rw f (moves_keep_lanes ms tag slot into 1 (length ms - 1) shut))
