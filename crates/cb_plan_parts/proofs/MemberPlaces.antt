-- Members of a list, their places, and the list turned so that the root is first.
use Rattle.std.proofs.Common.{◌≡◌, ◌≢◌, ℕ, zero, suc, ◌+◌, ◌-◌, ◌/◌, ◌<◌, ◌≤◌, Bool, true, false, List, [], ◌∷◌, ◌++◌, length, take, drop, length-append, length-drop, drop-cons, refl, sym, ap, ◌∙◌, arith}
use Rattle.std.specs.Prelude.{◌==◌, ◌&&◌, ◌||◌, nat_lt, if◌then◌else◌}
use Rattle.std.proofs.lemmas.Bool.Decides.{nat_tests}
use Rattle.std.proofs.Math.ListN.{get_or-append}
use Rattle.std.proofs.Math.Seq.{get_or-append_right}
use Rattle.std.proofs.lemmas.List.{take-append-drop, get_or-drop, get_or-take}
use Rattle.std.proofs.lemmas.List.Folds.{list_any-append, list_any_at}
use Rattle.cb_letters.specs.declared.Tag.{Tag}
use Rattle.cb_plan.specs.declared.acts.Act.TheVariants as act_is
use Rattle.cb_plan_parts.specs.Collectives.{is_member, AreDistinct, member, place_of, turned_at, turned, tree_move}
use Rattle.cb_plan.proofs.Effects.{split}

-- a member's place is inside the list
pub place-below : (members : List ℕ) (r : ℕ) → is_member members r ≡ true → place_of members r < length members
place-below [] r h = absurd (grind (arith, nat_tests))
place-below (m ∷ ms) r h =
    split (m == r)
    (λ t. rw t (omega arith))
    (λ f. let h' : is_member ms r ≡ true = rw f at h in let l = place-below ms r h' in rw f (omega arith))

-- and there stands the member
pub member-place_of : (members : List ℕ) (r : ℕ) → is_member members r ≡ true → member members (place_of members r) ≡ r
member-place_of [] r h = absurd (grind (arith, nat_tests))
member-place_of (m ∷ ms) r h =
    split (m == r)
    (λ t. let e : m ≡ r = grind (arith, nat_tests) in rw t e)
    (λ f. let h' : is_member ms r ≡ true = rw f at h in
    let e : member (m ∷ ms) (1 + place_of ms r) ≡ member ms (place_of ms r) = grind (arith, nat_tests) in
    rw f (e ∙ member-place_of ms r h'))

or_comm : (b c : Bool) → (b || c) ≡ (c || b)
or_comm true true = refl
or_comm true false = refl
or_comm false true = refl
or_comm false false = refl

-- the turned list has the same members
pub turned-members : (members : List ℕ) (root r : ℕ) → is_member (turned members root) r ≡ is_member members r
turned-members members root r =
    let k = place_of members root in
    list_any-append (λ m. m == r) (drop k members) (take k members)
    ∙ or_comm (is_member (drop k members) r) (is_member (take k members) r)
    ∙ sym (list_any-append (λ m. m == r) (take k members) (drop k members))
    ∙ ap (λ xs. is_member xs r) (take-append-drop k members)

-- turning a list round keeps its length
pub turned_at-length : (place : ℕ) (members : List ℕ) → length (turned_at place members) ≡ length members
turned_at-length k members =
    length-append (drop k members) (take k members)
    ∙ (let e = ap length (take-append-drop k members) in let f = length-append (take k members) (drop k members) in omega arith)

-- the turned list begins with the root
pub turned-begins : (members : List ℕ) (root : ℕ) → is_member members root ≡ true → (rest : List ℕ) × (turned members root ≡ root ∷ rest)
turned-begins members root h =
    let k = place_of members root in
    let first : drop k members ≡ root ∷ drop (suc k) members =
    drop-cons members k 0 (place-below members root h) ∙ ap (λ m. m ∷ drop (suc k) members) (member-place_of members root h) in
    (drop (suc k) members ++ take k members, ap (λ xs. xs ++ take k members) first)

-- a move by its sender, its addressee and the sender's slot
pub is_tree_move : (ms : List ℕ) (tag : Tag) (slot into p from to held : ℕ) → from ≡ member ms ((p - 1) / 2) → to ≡ member ms p → held ≡ (if (p - 1) / 2 == 0 then slot else into) →
    act_is.Move from to tag held into ≡ tree_move ms tag slot into p
is_tree_move ms tag slot into p from to held a b c = rw (a, b, c) refl

-- the first of some distinct ranks isn't among the rest
pub not_member : (m : ℕ) (ms : List ℕ) → AreDistinct (m ∷ ms) → is_member ms m ≡ false
not_member m ms distinct =
    split (is_member ms m) (λ t. let e : false ≡ true = rw t at distinct in absurd (cc e)) (λ f. f)

-- the rest of a list without repetitions has none
pub distinct_tail : (m : ℕ) (ms : List ℕ) → AreDistinct (m ∷ ms) → AreDistinct ms
distinct_tail m ms distinct = rw (not_member m ms distinct) at distinct

-- members of which no two are one are distinct
pub distinct_from_apart : (members : List ℕ) → ((p q : ℕ) → p < q → q < length members → member members p ≢ member members q) → AreDistinct members
distinct_from_apart [] apart = refl
distinct_from_apart (m ∷ ms) apart =
    let rest : AreDistinct ms = distinct_from_apart ms (λ p q l k. apart (suc p) (suc q) (omega arith) (omega arith)) in
    split (is_member ms m)
    (λ t. absurd (apart 0 (suc (place_of ms m)) (omega arith) (let l = place-below ms m t in omega arith) (sym (member-place_of ms m t))))
    (λ f. rw f rest)

-- a member's place is its number
pub place_of-member : (members : List ℕ) (p : ℕ) → AreDistinct members → p < length members → place_of members (member members p) ≡ p
place_of-member [] p distinct l = absurd (omega arith)
place_of-member (m ∷ ms) zero distinct l = let t : (m == m) ≡ true = grind (arith, nat_tests) in rw t refl
place_of-member (m ∷ ms) (suc p) distinct l =
    split (m == member ms p)
    (λ t.
    let e : (member ms p == m) ≡ true = grind (arith, nat_tests) in
    let there : is_member ms m ≡ true = list_any_at (λ x. x == m) ms p 0 (omega arith) e in
    let none = not_member m ms distinct in
    absurd (cc (there, none)))
    (λ f. rw f (let h = place_of-member ms p (distinct_tail m ms distinct) (omega arith) in omega arith))

-- a rank is the member with a number if that number is its place
pub at_place : (members : List ℕ) (p r : ℕ) → AreDistinct members → p < length members → (member members p == r) ≡ (is_member members r && place_of members r == p)
at_place members p r distinct l =
    split (member members p == r)
    (λ t.
    let e : member members p ≡ r = grind (arith, nat_tests) in
    let there : is_member members r ≡ true = list_any_at (λ m. m == r) members p 0 l t in
    let place : place_of members r ≡ p = ap (place_of members) (sym e) ∙ place_of-member members p distinct l in
    let u : (place_of members r == p) ≡ true = grind (arith, nat_tests) in
    rw (t, there, u) refl)
    (λ f.
    rw f (split (is_member members r)
    (λ g. rw g (split (place_of members r == p)
    (λ u.
    let place : place_of members r ≡ p = grind (arith, nat_tests) in
    let e : member members p ≡ r = ap (member members) (sym place) ∙ member-place_of members r g in
    absurd (grind (arith, nat_tests)))
    (λ u. sym u)))
    (λ g. rw g refl)))

-- distinct members with two numbers are two
pub same_member : (members : List ℕ) (p q : ℕ) → AreDistinct members → p < length members → q < length members → member members p ≡ member members q → p ≡ q
same_member members p q distinct l m e =
    sym (place_of-member members p distinct l) ∙ ap (place_of members) e ∙ place_of-member members q distinct m

-- where the member with a number in the turned list stands in the list
abbrev turned_place : ℕ → ℕ → ℕ → ℕ
turned_place k n p = if nat_lt (k + p) n then k + p else k + p - n

turned_place-below : (k n p : ℕ) → k < n → p < n → turned_place k n p < n
turned_place-below k n p l m = split (nat_lt (k + p) n) (λ t. rw t (grind (arith, nat_tests))) (λ t. rw t (grind (arith, nat_tests)))

turned_place-apart : (k n p q : ℕ) → k < n → p < q → q < n → turned_place k n p ≢ turned_place k n q
turned_place-apart k n p q l m o =
    split (nat_lt (k + p) n)
    (λ t. split (nat_lt (k + q) n) (λ u. rw (t, u) (grind (arith, nat_tests))) (λ u. rw (t, u) (grind (arith, nat_tests))))
    (λ t. split (nat_lt (k + q) n) (λ u. rw (t, u) (grind (arith, nat_tests))) (λ u. rw (t, u) (grind (arith, nat_tests))))

at_turned : (k : ℕ) (members : List ℕ) (p : ℕ) → k < length members → p < length members → member (turned_at k members) p ≡ member members (turned_place k (length members) p)
at_turned k members p l m =
    let d = length-drop k members in
    split (nat_lt (k + p) (length members))
    (λ t.
    let b : p < length (drop k members) = grind (arith, nat_tests) in
    rw t (get_or-append (drop k members) (take k members) 0 p b ∙ get_or-drop k members p 0))
    (λ t.
    let b : length (drop k members) ≤ p = grind (arith, nat_tests) in
    let e : p - length (drop k members) ≡ k + p - length members = grind (arith, nat_tests) in
    rw t (get_or-append_right (drop k members) (take k members) p 0 b ∙ rw e (get_or-take k members (k + p - length members) 0 (omega arith))))

-- the members of a turned list exist if those of the list do
pub turned-below : (members : List ℕ) (root ranks : ℕ) → ((p : ℕ) → p < length members → member members p < ranks) → place_of members root < length members → (p : ℕ) → p < length (turned members root) → member (turned members root) p < ranks
turned-below members root ranks below place p l =
    let k = place_of members root in
    let n = turned_at-length k members in
    let m : p < length members = omega arith in
    rw (at_turned k members p place m) (below (turned_place k (length members) p) (turned_place-below k (length members) p place m))

-- a turned list has no repetitions if the list has none
pub turned-differ : (members : List ℕ) (root : ℕ) → AreDistinct members → place_of members root < length members → (p q : ℕ) → p < q → q < length (turned members root) → member (turned members root) p ≢ member (turned members root) q
turned-differ members root distinct place p q l m e =
    let k = place_of members root in
    let n = turned_at-length k members in
    let lp : p < length members = omega arith in
    let lq : q < length members = omega arith in
    turned_place-apart k (length members) p q place l lq
    (same_member members (turned_place k (length members) p) (turned_place k (length members) q) distinct (turned_place-below k (length members) p place lp) (turned_place-below k (length members) q place lq)
    (sym (at_turned k members p place lp) ∙ e ∙ at_turned k members q place lq))
