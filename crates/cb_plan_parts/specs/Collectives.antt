-- The acts of the collectives, and what they do to the slots.
use Rattle.std.specs.Prelude.{◌≡◌, ℕ, ◌+◌, ◌-◌, ◌/◌, ◌<◌, Bool, true, false, not, ◌&&◌, ◌==◌, nat_le, nat_lt, if◌then◌else◌, Option, Some}
use Rattle.std.specs.Prelude.{List, [], ◌∷◌, ◌++◌, length, get_or, take, drop, map, filter, flat_map}
use Rattle.std.specs.List.{range_with_len, list_any, position_or_len}
use Rattle.cb_semirings.specs.Arithmetic.{Arithmetic, IsSemiring}
use Rattle.cb_matrix.specs.Sparse.{Sparse, IsMatrix, at}
use Rattle.cb_matrix.specs.Values.{total}
use Rattle.cb_letters.specs.declared.Tag.{Tag}
use Rattle.cb_plan.specs.declared.acts.Op.TheVariants as op_is
use Rattle.cb_plan.specs.declared.acts.Act.{Act}
use Rattle.cb_plan.specs.declared.acts.Act.TheVariants as act_is
use Rattle.cb_plan.specs.Algebras.{matrices}
use Rattle.cb_plan.specs.Meaning.{Algebra, State, meaning, two}
pub use Rattle.cb_plan.specs.Closings.{shut_lane, shut_from, shut_acts}

abbrev pub is_member : List ℕ → ℕ → Bool
is_member members r = list_any (λ m. m == r) members

-- whether no rank is a member twice
abbrev pub are_distinct : List ℕ → Bool
are_distinct [] = true
are_distinct (m ∷ ms) = not (is_member ms m) && are_distinct ms

abbrev pub AreDistinct : List ℕ → Type 0
AreDistinct members = are_distinct members ≡ true

-- the member with this number in the list
abbrev pub member : List ℕ → ℕ → ℕ
member members p = get_or members p 0

-- the place of a rank in the list: the first one that it has
abbrev pub place_of : List ℕ → ℕ → ℕ
place_of members r = position_or_len (λ m. m == r) members

-- a slot of one rank goes to a slot of another, or of the same rank
abbrev pub sent : ℕ → ℕ → Tag → ℕ → ℕ → Act
sent from to tag slot into = if from == to then act_is.Work to (op_is.Copy slot into) else act_is.Move from to tag slot into

-- a slot of a rank goes to another slot of the same rank
abbrev pub copied_at : ℕ → ℕ → ℕ → List Act
copied_at rank slot into = if slot == into then [] else act_is.Work rank (op_is.Copy slot into) ∷ []

-- the members from a place on, and then those before it
abbrev pub turned_at : ℕ → List ℕ → List ℕ
turned_at place members = drop place members ++ take place members

-- the members rotated so that the root is first
abbrev pub turned : List ℕ → ℕ → List ℕ
turned members root = turned_at (place_of members root) members

-- in the rotated list, member p gets the block from member (p-1)/2, which already has it
abbrev pub tree_move : List ℕ → Tag → ℕ → ℕ → ℕ → Act
tree_move ms tag slot into p =
    act_is.Move (member ms ((p - 1) / 2)) (member ms p) tag (if (p - 1) / 2 == 0 then slot else into) into

abbrev pub tree_moves : List ℕ → Tag → ℕ → ℕ → List Act
tree_moves ms tag slot into = map (tree_move ms tag slot into) (range_with_len 1 (length ms - 1))

abbrev pub broadcast_acts : List ℕ → ℕ → Tag → ℕ → ℕ → List Act
broadcast_acts members root tag slot into = copied_at root slot into ++ tree_moves (turned members root) tag slot into

-- the slot of member t goes to slot into + t of the root
abbrev pub gather_acts : List ℕ → ℕ → Tag → ℕ → ℕ → List Act
gather_acts members root tag slot into =
    map (λ t. sent (member members t) root tag slot (into + t)) (range_with_len 0 (length members))

-- the slot of a member other than the root goes to the root, which adds it
abbrev pub added_from : ℕ → Tag → ℕ → ℕ → ℕ → ℕ → List Act
added_from root tag slot into scratch m =
    if m == root then [] else act_is.Move m root tag slot scratch ∷ act_is.Work root (op_is.Add into scratch into) ∷ []

abbrev pub reduce_acts : List ℕ → ℕ → Tag → ℕ → ℕ → ℕ → List Act
reduce_acts members root tag slot into scratch =
    act_is.Work root (op_is.Copy slot into) ∷ flat_map (added_from root tag slot into scratch) members

-- slot slot + t of member s goes to one slot of member t, for each t
abbrev pub sent_from : List ℕ → Tag → ℕ → ℕ → ℕ → List Act
sent_from members tag slot into s =
    map (λ t. sent (member members s) (member members t) tag (slot + t) into) (range_with_len 0 (length members))

-- slot slot + t of member s goes to slot into + s of member t, for each s and each t
abbrev pub all_to_all_acts : List ℕ → Tag → ℕ → ℕ → List Act
all_to_all_acts members tag slot into =
    flat_map (λ s. sent_from members tag slot (into + s) s) (range_with_len 0 (length members))

-- these acts change the slots in this way, over matrices with any operations
abbrev pub Means : List Act → (State Sparse → State Sparse) → Type 0
Means acts change = (ops : Algebra Sparse) → (state : State Sparse) → meaning ops acts state ≡ change state

-- a slot of each member has the same content
abbrev pub spread : {M : Type 0} → List ℕ → ℕ → Option M → State M → State M
spread members into x state r n = if is_member members r && into == n then x else state r n

-- slot `into` of each member gets what the root's slot has
abbrev pub spread_from : {M : Type 0} → List ℕ → ℕ → ℕ → ℕ → State M → State M
spread_from members root slot into state = spread members into (state root slot) state

-- whether a slot is one of the slots from a number on, one for each member
abbrev pub is_in_run : List ℕ → ℕ → ℕ → Bool
is_in_run members into n = nat_le into n && nat_lt n (into + length members)

-- slot into + t of the root is what the slot of member t was
abbrev pub gathered : {M : Type 0} → List ℕ → ℕ → ℕ → ℕ → State M → State M
gathered members root slot into state r n =
    if root == r && is_in_run members into n then state (member members (n - into)) slot else state r n

-- the members other than the root
abbrev pub others : List ℕ → ℕ → List ℕ
others members root = filter (λ m. not (m == root)) members

-- the contents of a slot of these ranks, added one after another to a content
abbrev pub sum_with : {M : Type 0} → Algebra M → State M → ℕ → Option M → List ℕ → Option M
sum_with ops state slot x [] = x
sum_with ops state slot x (m ∷ ms) = sum_with ops state slot (two ops.add x (state m slot)) ms

-- the sum of a slot over all members, the root's own first, and then in list order
abbrev pub sum_of_members : {M : Type 0} → Algebra M → List ℕ → ℕ → ℕ → State M → Option M
sum_of_members ops members root slot state = sum_with ops state slot (state root slot) (others members root)

-- slot `into` of the root has the sum, its slot `scratch` may have anything, and every other slot is as before
abbrev pub IsReduced : {M : Type 0} → Algebra M → List ℕ → ℕ → ℕ → ℕ → ℕ → State M → State M → Type 0
IsReduced ops members root slot into scratch before after =
    (r n : ℕ) → (root == r && scratch == n) ≡ false →
    after r n ≡ (if root == r && into == n then sum_of_members ops members root slot before else before r n)

-- these acts reduce the members' slots at the root, over matrices with any operations
abbrev pub Reduces : List Act → List ℕ → ℕ → ℕ → ℕ → ℕ → Type 0
Reduces acts members root slot into scratch =
    (ops : Algebra Sparse) → (state : State Sparse) → IsReduced ops members root slot into scratch state (meaning ops acts state)

-- slot into + s of the member at place t is what slot slot + t of member s was
abbrev pub exchanged : {M : Type 0} → List ℕ → ℕ → ℕ → State M → State M
exchanged members slot into state r n =
    if is_member members r && is_in_run members into n then state (member members (n - into)) (slot + place_of members r) else state r n

-- a slot of each member holds a block
abbrev pub HasBlocks : Arithmetic → List ℕ → ℕ → (ℕ → Sparse) → State Sparse → Type 0
HasBlocks s members slot block state =
    (m : ℕ) → is_member members m ≡ true → (state m slot ≡ Some (block m)) × IsMatrix s (block m)

-- a content is a block of the root's shape, which has at each place the sum of the members' values there
abbrev pub AddsUp : Arithmetic → List ℕ → ℕ → (ℕ → Sparse) → Option Sparse → Type 0
AddsUp s members root block content =
    (sum : Sparse) × (content ≡ Some sum) × (sum.shape ≡ (block root).shape)
    × ((i j : ℕ) → i < (block root).shape.rows → j < (block root).shape.cols → at s sum i j ≡ total s (map (λ m. at s (block m) i j) members))

-- over a semiring, the sum of the members' blocks adds them up at each place
abbrev pub MembersAddUp : List ℕ → ℕ → ℕ → Type 0
MembersAddUp members root slot =
    (s : Arithmetic) → IsSemiring s → (state : State Sparse) (block : ℕ → Sparse)
    → HasBlocks s members slot block state
    → AddsUp s members root block (sum_of_members (matrices s) members root slot state)
