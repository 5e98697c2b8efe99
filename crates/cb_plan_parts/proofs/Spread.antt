-- What broadcasts do.
use Rattle.std.proofs.Common.{◌≡◌, ℕ, zero, suc, ◌+◌, ◌-◌, ◌/◌, ◌<◌, ◌≤◌, Bool, true, false, List, [], ◌∷◌, map, length, get_or, refl, sym, ap, ◌∙◌, arith}
use Rattle.std.specs.Prelude.{Option, ◌==◌, ◌&&◌, ◌||◌, if◌then◌else◌}
use Rattle.std.specs.List.{range_with_len}
use Rattle.std.proofs.lemmas.Bool.Decides.{nat_tests}
use Rattle.cb_letters.specs.declared.Tag.{Tag}
use Rattle.cb_plan.specs.Meaning.{Algebra, State, act, meaning}
use Rattle.cb_plan_parts.specs.Collectives.{is_member, spread, turned, copied_at, tree_move, tree_moves, broadcast_acts}
use Rattle.cb_plan.proofs.Effects.{split, same_state, meaning-append}
use Rattle.cb_plan_parts.proofs.MemberPlaces.{turned-begins, turned-members}

-- the members from number a on that get it
abbrev reached : List ℕ → ℕ → ℕ → List ℕ
reached ms a n = map (λ p. get_or ms p 0) (range_with_len a n)

-- the member that sends has the block, so the one that gets it has it too
pub moved : {M : Type 0} (ops : Algebra M) (ms : List ℕ) (tag : Tag) (slot into : ℕ) (v : Option M) (a : ℕ) (state : State M) → 1 ≤ a →
    ((q : ℕ) → q < a → state (get_or ms q 0) into ≡ v) → state (get_or ms 0 0) slot ≡ v → (r x : ℕ) →
    act ops (tree_move ms tag slot into a) state r x ≡ (if (get_or ms a 0 == r) && into == x then v else state r x)
moved ops ms tag slot into v a state pos has first r x =
    let parent : (a - 1) / 2 < a = omega arith in
    let sent : state (get_or ms ((a - 1) / 2) 0) (if (a - 1) / 2 == 0 then slot else into) ≡ v =
    split ((a - 1) / 2 == 0)
    (λ t. let e : (a - 1) / 2 ≡ 0 = grind (arith, nat_tests) in rw (t, e) first)
    (λ f. rw f (has ((a - 1) / 2) parent)) in
    ap (λ y. if (get_or ms a 0 == r) && into == x then y else state r x) sent

pub twice : {X : Type 0} (b c d : Bool) (v y z : X) → z ≡ (if b && d then v else y) → (if c && d then v else z) ≡ (if (b || c) && d then v else y)
twice true true true v y z h = refl
twice true true false v y z h = h
twice true false true v y z h = h
twice true false false v y z h = h
twice false true true v y z h = refl
twice false true false v y z h = h
twice false false true v y z h = h
twice false false false v y z h = h

moves : {M : Type 0} (ops : Algebra M) (ms : List ℕ) (tag : Tag) (slot into : ℕ) (v : Option M) (a n : ℕ) (state : State M) → 1 ≤ a →
    ((q : ℕ) → q < a → state (get_or ms q 0) into ≡ v) → state (get_or ms 0 0) slot ≡ v → (r x : ℕ) →
    meaning ops (map (tree_move ms tag slot into) (range_with_len a n)) state r x ≡ spread (reached ms a n) into v state r x
moves ops ms tag slot into v a zero state pos has first r x = refl
moves {M} ops ms tag slot into v a (suc n) state pos has first r x =
    let step = moved ops ms tag slot into v a state pos has first in
    let next = act ops (tree_move ms tag slot into a) state in
    let has' : (q : ℕ) → q < a + 1 → next (get_or ms q 0) into ≡ v = λ q l. step (get_or ms q 0) into ∙
    split (get_or ms a 0 == get_or ms q 0)
    (λ t. let e : (into == into) ≡ true = grind (arith, nat_tests) in rw (t, e) refl)
    (λ f. rw f (has q (split (q == a) (λ t. let e : q ≡ a = grind (arith, nat_tests) in let g : (get_or ms a 0 == get_or ms q 0) ≡ true = rw e (grind (arith, nat_tests)) in grind (arith, nat_tests)) (λ g. grind (arith, nat_tests))))) in
    let first' : next (get_or ms 0 0) slot ≡ v = step (get_or ms 0 0) slot ∙
    split (get_or ms a 0 == get_or ms 0 0 && into == slot)
    (λ t. rw t refl)
    (λ f. rw f first) in
    let rest = moves ops ms tag slot into v (a + 1) n next (omega arith) has' first' r x in
    rest ∙ twice (get_or ms a 0 == r) (is_member (reached ms (a + 1) n) r) (into == x) v (state r x) (next r x) (step r x)

-- the numbers of a list's elements give the list
elements_from : (m : ℕ) (ms : List ℕ) (a n : ℕ) → reached (m ∷ ms) (a + 1) n ≡ reached ms a n
elements_from m ms a zero = refl
elements_from m ms a (suc n) =
    let e : get_or (m ∷ ms) (a + 1) 0 ≡ get_or ms a 0 = grind (arith, nat_tests) in
    rw e (ap (λ xs. get_or ms a 0 ∷ xs) (elements_from m ms (a + 1) n))

elements : (ms : List ℕ) → reached ms 0 (length ms) ≡ ms
elements [] = refl
elements (m ∷ ms) = ap (λ xs. m ∷ xs) (elements_from m ms 0 (length ms) ∙ elements ms)

or_false : (b : Bool) → b || false ≡ b
or_false true = refl
or_false false = refl

-- a copy at a rank
pub copied : {M : Type 0} (ops : Algebra M) (rank slot into : ℕ) (state : State M) (r n : ℕ) → meaning ops (copied_at rank slot into) state r n ≡ spread (rank ∷ []) into (state rank slot) state r n
copied ops rank slot into state r n =
    split (slot == into)
    (λ t.
    let e : slot ≡ into = grind (arith, nat_tests) in
    rw t (split (rank == r)
    (λ u. let f : rank ≡ r = grind (arith, nat_tests) in rw u (split (into == n) (λ w. let g : into ≡ n = grind (arith, nat_tests) in rw w (rw (f, e, g) refl)) (λ w. rw w refl)))
    (λ u. rw u refl)))
    (λ f. rw f (ap (λ b. if b && into == n then state rank slot else state r n) (sym (or_false (rank == r)))))

-- a broadcast by a tree gives each member what the root's slot has, and changes nothing else
pub broadcast_spreads : {M : Type 0} (ops : Algebra M) (members : List ℕ) (root : ℕ) (tag : Tag) (slot into : ℕ) (state : State M) → is_member members root ≡ true →
    meaning ops (broadcast_acts members root tag slot into) state ≡ spread members into (state root slot) state
broadcast_spreads {M} ops members root tag slot into state there =
    let begins = turned-begins members root there in
    let rest : List ℕ = begins.0 in
    let ms : turned members root ≡ root ∷ rest = begins.1 in
    let v = state root slot in
    let one : State M = meaning ops (copied_at root slot into) state in
    let is_one : (r n : ℕ) → one r n ≡ spread (root ∷ []) into v state r n = copied ops root slot into state in
    let own : (root == root) ≡ true = grind (arith, nat_tests) in
    let same : (into == into) ≡ true = grind (arith, nat_tests) in
    let has : one root into ≡ v = is_one root into ∙ rw (own, same) refl in
    let first : one root slot ≡ v = is_one root slot ∙ rw own (split (into == slot) (λ t. rw t refl) (λ f. rw f refl)) in
    let count : length (turned members root) - 1 ≡ length rest = let h = ap length ms in omega arith in
    same_state (meaning ops (broadcast_acts members root tag slot into) state) (spread members into v state) (λ r n.
    ap (λ f. f r n) (meaning-append ops (copied_at root slot into) (tree_moves (turned members root) tag slot into) state)
    ∙ ap (λ k. meaning ops (map (tree_move (turned members root) tag slot into) (range_with_len 1 k)) one r n) count
    ∙ ap (λ xs. meaning ops (map (tree_move xs tag slot into) (range_with_len 1 (length rest))) one r n) ms
    ∙ moves ops (root ∷ rest) tag slot into v 1 (length rest) one (omega arith) (λ q l. let e : q ≡ 0 = omega arith in rw e has) first r n
    ∙ ap (λ xs. spread xs into v one r n) (elements_from root rest 0 (length rest) ∙ elements rest)
    ∙ twice (root == r) (is_member rest r) (into == n) v (state r n) (one r n) (is_one r n ∙ ap (λ b. if b && into == n then v else state r n) (or_false (root == r)))
    ∙ ap (λ b. if b && into == n then v else state r n) (ap (λ xs. is_member xs r) (sym ms) ∙ turned-members members root r))
