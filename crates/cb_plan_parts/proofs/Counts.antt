-- How many acts the collectives have.
use Rattle.std.proofs.Common.{◌≡◌, ℕ, zero, suc, ◌+◌, ◌-◌, ◌*◌, ◌<◌, ◌≤◌, true, false, List, [], ◌∷◌, length, length-append, refl, sym, ap, ◌∙◌, arith}
use Rattle.std.specs.Prelude.{◌==◌, ◌&&◌, nat_le, nat_lt, if◌then◌else◌}
use Rattle.std.specs.List.{range_with_len, flat_map}
use Rattle.std.proofs.lemmas.Bool.Decides.{nat_tests}
use Rattle.std.proofs.lemmas.List.FromFn.{length-map-range_with_len}
use Rattle.cb_letters.specs.declared.Tag.{Tag}
use Rattle.cb_plan.proofs.Effects.{split}
pub use Rattle.cb_plan.proofs.ShutCounts.{count_shut}
use Rattle.cb_plan_parts.specs.Collectives.{is_member, place_of, turned, tree_move, tree_moves, copied_at, broadcast_acts, member, AreDistinct, sent, gather_acts, sent_from, all_to_all_acts, added_from, reduce_acts}
use Rattle.cb_plan_parts.proofs.MemberPlaces.{place-below, turned_at-length, not_member, distinct_tail}

-- a broadcast has a move to each member but the root, and a copy at the root if it is to another slot
pub count_broadcast : (members : List ℕ) (root : ℕ) (tag : Tag) (slot into : ℕ) → is_member members root ≡ true → length (broadcast_acts members root tag slot into) ≡ length members - (if slot == into then 1 else 0)
count_broadcast members root tag slot into there =
    let x = length-append (copied_at root slot into) (tree_moves (turned members root) tag slot into) in
    let z = length-map-range_with_len (tree_move (turned members root) tag slot into) 1 (length (turned members root) - 1) in
    let w = turned_at-length (place_of members root) members in
    let l = place-below members root there in
    split (slot == into)
    (λ t. let y : length (copied_at root slot into) ≡ 0 = rw t refl in rw t (omega arith))
    (λ t. let y : length (copied_at root slot into) ≡ 1 = rw t refl in rw t (omega arith))

-- each member sends once to the root
pub count_gather : (members : List ℕ) (root : ℕ) (tag : Tag) (slot into : ℕ) → length (gather_acts members root tag slot into) ≡ length members
count_gather members root tag slot into =
    length-map-range_with_len (λ t. sent (member members t) root tag slot (into + t)) 0 (length members)

count_sent_from : (members : List ℕ) (tag : Tag) (slot into s : ℕ) → length (sent_from members tag slot into s) ≡ length members
count_sent_from members tag slot into s =
    length-map-range_with_len (λ t. sent (member members s) (member members t) tag (slot + t) into) 0 (length members)

exchanged_up_to : (members : List ℕ) (tag : Tag) (slot into a n : ℕ) → length (flat_map (λ s. sent_from members tag slot (into + s) s) (range_with_len a n)) ≡ n * length members
exchanged_up_to members tag slot into a zero = omega arith
exchanged_up_to members tag slot into a (suc n) =
    let h = exchanged_up_to members tag slot into (a + 1) n in
    let x = length-append (sent_from members tag slot (into + a) a) (flat_map (λ s. sent_from members tag slot (into + s) s) (range_with_len (a + 1) n)) in
    let y = count_sent_from members tag slot (into + a) a in
    let z : suc n * length members ≡ length members + n * length members = grind arith in
    omega arith

-- an exchange has an act for each pair of members
pub count_all_to_all : (members : List ℕ) (tag : Tag) (slot into : ℕ) → length (all_to_all_acts members tag slot into) ≡ length members * length members
count_all_to_all members tag slot into = exchanged_up_to members tag slot into 0 (length members)

-- two acts for each member that isn't the root
count_added : (root : ℕ) (tag : Tag) (slot into scratch : ℕ) (ms : List ℕ) → is_member ms root ≡ false → length (flat_map (added_from root tag slot into scratch) ms) ≡ 2 * length ms
count_added root tag slot into scratch [] h = refl
count_added root tag slot into scratch (m ∷ ms) h =
    split (m == root)
    (λ t. let e : true ≡ false = rw t at h in absurd (cc e))
    (λ t.
    let h' : is_member ms root ≡ false = rw t at h in
    let k = count_added root tag slot into scratch ms h' in
    rw t (omega arith))

others_added : (root : ℕ) (tag : Tag) (slot into scratch : ℕ) (ms : List ℕ) → AreDistinct ms → is_member ms root ≡ true → length (flat_map (added_from root tag slot into scratch) ms) + 2 ≡ 2 * length ms
others_added root tag slot into scratch [] distinct h = let e : false ≡ true = h in absurd (cc e)
others_added root tag slot into scratch (m ∷ ms) distinct h =
    split (m == root)
    (λ t.
    let e : m ≡ root = grind (arith, nat_tests) in
    let apart : is_member ms root ≡ false = ap (is_member ms) (sym e) ∙ not_member m ms distinct in
    let k = count_added root tag slot into scratch ms apart in
    rw t (omega arith))
    (λ t.
    let h' : is_member ms root ≡ true = rw t at h in
    let k = others_added root tag slot into scratch ms (distinct_tail m ms distinct) h' in
    rw t (omega arith))

-- a reduction has a move or a copy for each member, and a sum for each but one
pub count_reduce : (members : List ℕ) (root : ℕ) (tag : Tag) (slot into scratch : ℕ) → is_member members root ≡ true → AreDistinct members → length (reduce_acts members root tag slot into scratch) ≡ length members + (length members - 1)
count_reduce members root tag slot into scratch there distinct =
    let h = others_added root tag slot into scratch members distinct there in omega arith
