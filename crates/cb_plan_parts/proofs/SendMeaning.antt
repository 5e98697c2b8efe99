-- Acts that fill a run of slots: what gather and all_to_all do.
use Rattle.std.proofs.Common.{◌≡◌, ℕ, zero, suc, ◌+◌, ◌-◌, ◌<◌, ◌≤◌, Bool, true, false, List, [], ◌∷◌, map, length, refl, sym, ap, ◌∙◌, arith}
use Rattle.std.specs.Prelude.{◌⊎◌, ◌==◌, ◌&&◌, nat_le, nat_lt, if◌then◌else◌}
use Rattle.std.specs.List.{range_with_len, flat_map}
use Rattle.std.proofs.lemmas.Bool.Decides.{nat_tests}
use Rattle.std.proofs.lemmas.List.Concat.{flat_map_single}
use Rattle.cb_letters.specs.declared.Tag.{Tag}
use Rattle.cb_plan.specs.declared.acts.Act.{Act}
use Rattle.cb_plan.specs.Meaning.{Algebra, State, act, meaning}
use Rattle.cb_plan.proofs.Effects.{split, same_state, meaning-append}
use Rattle.cb_plan_parts.specs.Collectives.{is_member, member, place_of, AreDistinct, sent, gather_acts, gathered, sent_from, all_to_all_acts, exchanged}
use Rattle.cb_plan_parts.proofs.MemberPlaces.{place-below, at_place}

-- a slot of one rank goes to a slot of another, or of the same rank
pub act_sent : {M : Type 0} (ops : Algebra M) (from to : ℕ) (tag : Tag) (slot into : ℕ) (state : State M) (r n : ℕ) → act ops (sent from to tag slot into) state r n ≡ (if to == r && into == n then state from slot else state r n)
act_sent ops from to tag slot into state r n =
    split (from == to)
    (λ t. let e : from ≡ to = grind (arith, nat_tests) in rw (t, e) refl)
    (λ f. rw f refl)

-- if list k of acts sets slot into + k of some ranks, and what it reads isn't in the run, the lists set the run
module _ {M : Type 0} (ops : Algebra M) (f : ℕ → List Act) (sender : ℕ → ℕ) (gets : ℕ → Bool) (held : ℕ → ℕ) (into : ℕ) where
  fills : (a n b : ℕ) (state : State M) → into + a ≡ b →
      ((k : ℕ) → a ≤ k → k < a + n → (state : State M) (r x : ℕ) → meaning ops (f k) state r x ≡ (if gets r && into + k == x then state (sender k) (held r) else state r x)) →
      ((r : ℕ) → gets r ≡ true → (held r < b) ⊎ (b + n ≤ held r)) → (r x : ℕ) →
      meaning ops (flat_map f (range_with_len a n)) state r x ≡ (if gets r && (nat_le b x && nat_lt x (b + n)) then state (sender (x - into)) (held r) else state r x)
  fills a zero b state e each apart r x =
      let t : (nat_le b x && nat_lt x (b + zero)) ≡ false = grind (arith, nat_tests) in
      split (gets r) (λ g. rw (g, t) refl) (λ g. rw g refl)
  fills a (suc n) b state e each apart r x =
      let next : State M = meaning ops (f a) state in
      let is_next : (q y : ℕ) → next q y ≡ (if gets q && into + a == y then state (sender a) (held q) else state q y) = each a (omega arith) (omega arith) state in
      let rest = fills (a + 1) n (b + 1) next (omega arith) (λ k l m. each k (omega arith) (omega arith)) (λ q g. let h = apart q g in grind (arith, h)) r x in
      ap (λ st. st r x) (meaning-append ops (f a) (flat_map f (range_with_len (a + 1) n)) state) ∙ rest ∙ split (gets r)
      (λ g.
      let kept : (q : ℕ) → next q (held r) ≡ state q (held r) = λ q. is_next q (held r) ∙
      (let h = apart r g in let u : (into + a == held r) ≡ false = grind (arith, nat_tests) in
      split (gets q) (λ v. rw (v, u) refl) (λ v. rw v refl)) in
      split (into + a == x)
      (λ t.
      let o : (nat_le (b + 1) x && nat_lt x (b + 1 + n)) ≡ false = grind (arith, nat_tests) in
      let p : (nat_le b x && nat_lt x (b + suc n)) ≡ true = grind (arith, nat_tests) in
      let d : x - into ≡ a = grind (arith, nat_tests) in
      rw (g, o, p, d) (is_next r x ∙ rw (g, t) refl))
      (λ t.
      let o : (nat_le b x && nat_lt x (b + suc n)) ≡ (nat_le (b + 1) x && nat_lt x (b + 1 + n)) = grind (arith, nat_tests) in
      rw (g, o) (split (nat_le (b + 1) x && nat_lt x (b + 1 + n)) (λ u. rw u (kept (sender (x - into)))) (λ u. rw u (is_next r x ∙ rw (g, t) refl)))))
      (λ g. rw g (is_next r x ∙ rw g refl))

-- the members' slots are in the root's run of slots
pub gather_gathers : {M : Type 0} (ops : Algebra M) (members : List ℕ) (root : ℕ) (tag : Tag) (slot into : ℕ) (state : State M) →
    (slot < into) ⊎ (into + length members ≤ slot) → meaning ops (gather_acts members root tag slot into) state ≡ gathered members root slot into state
gather_gathers {M} ops members root tag slot into state apart =
    let g : ℕ → Act = λ t. sent (member members t) root tag slot (into + t) in
    same_state (meaning ops (gather_acts members root tag slot into) state) (gathered members root slot into state) (λ r x.
    ap (λ acts. meaning ops acts state r x) (sym (flat_map_single g (range_with_len 0 (length members))))
    ∙ fills ops (λ t. g t ∷ []) (member members) (λ q. root == q) (λ q. slot) into 0 (length members) into state (omega arith)
    (λ k l m st q y. act_sent ops (member members k) root tag slot (into + k) st q y) (λ q u. apart) r x)

-- a member's slots go to a slot of each member with a place in a range
module _ {M : Type 0} (ops : Algebra M) (members : List ℕ) (distinct : AreDistinct members) (tag : Tag) (slot into s : ℕ)
    (apart : (p : ℕ) → p < length members → (into + s == slot + p) ≡ false) where
  abbrev within : ℕ → ℕ → ℕ → Bool
  within a n r = is_member members r && (nat_le a (place_of members r) && nat_lt (place_of members r) (a + n))

  sends : (a n : ℕ) (state : State M) → a + n ≤ length members → (r x : ℕ) →
      meaning ops (map (λ t. sent (member members s) (member members t) tag (slot + t) (into + s)) (range_with_len a n)) state r x
      ≡ (if within a n r && into + s == x then state (member members s) (slot + place_of members r) else state r x)
  sends a zero state l r x =
      let t : (nat_le a (place_of members r) && nat_lt (place_of members r) (a + zero)) ≡ false = grind (arith, nat_tests) in
      split (is_member members r) (λ g. rw (g, t) refl) (λ g. rw g refl)
  sends a (suc n) state l r x =
      let next : State M = act ops (sent (member members s) (member members a) tag (slot + a) (into + s)) state in
      let is_next : (q y : ℕ) → next q y ≡ (if member members a == q && into + s == y then state (member members s) (slot + a) else state q y) =
      act_sent ops (member members s) (member members a) tag (slot + a) (into + s) state in
      let rest = sends (a + 1) n next (omega arith) r x in
      let here : (member members a == r) ≡ (is_member members r && place_of members r == a) = at_place members a r distinct (omega arith) in
      rest ∙ split (is_member members r)
      (λ g.
      let below = place-below members r g in
      let u = apart (place_of members r) below in
      let kept : next (member members s) (slot + place_of members r) ≡ state (member members s) (slot + place_of members r) =
      is_next (member members s) (slot + place_of members r) ∙ split (member members a == member members s) (λ v. rw (v, u) refl) (λ v. rw v refl) in
      let here' : (member members a == r) ≡ (place_of members r == a) = here ∙ rw g refl in
      split (into + s == x)
      (λ t. split (place_of members r == a)
      (λ v.
      let o : (nat_le (a + 1) (place_of members r) && nat_lt (place_of members r) (a + 1 + n)) ≡ false = grind (arith, nat_tests) in
      let p : (nat_le a (place_of members r) && nat_lt (place_of members r) (a + suc n)) ≡ true = grind (arith, nat_tests) in
      let w : (member members a == r) ≡ true = here' ∙ v in
      let d : place_of members r ≡ a = grind (arith, nat_tests) in
      rw (g, o, p, t) (is_next r x ∙ rw (w, t) (ap (λ k. state (member members s) (slot + k)) (sym d))))
      (λ v.
      let o : (nat_le a (place_of members r) && nat_lt (place_of members r) (a + suc n)) ≡ (nat_le (a + 1) (place_of members r) && nat_lt (place_of members r) (a + 1 + n)) = grind (arith, nat_tests) in
      let w : (member members a == r) ≡ false = here' ∙ v in
      rw (g, o, t) (split (nat_le (a + 1) (place_of members r) && nat_lt (place_of members r) (a + 1 + n)) (λ y. rw y kept) (λ y. rw y (is_next r x ∙ rw w refl)))))
      (λ t.
      let none : (b : Bool) → (b && false) ≡ false = λ b. split b (λ y. rw y refl) (λ y. rw y refl) in
      rw (t, none (within (a + 1) n r), none (within a (suc n) r)) (is_next r x ∙ split (member members a == r) (λ y. rw (y, t) refl) (λ y. rw y refl))))
      (λ g. let w : (member members a == r) ≡ false = here ∙ rw g refl in rw g (is_next r x ∙ rw w refl))

  sends_to_all : (state : State M) (r x : ℕ) →
      meaning ops (sent_from members tag slot (into + s) s) state r x
      ≡ (if is_member members r && into + s == x then state (member members s) (slot + place_of members r) else state r x)
  sends_to_all state r x =
      sends 0 (length members) state (omega arith) r x
      ∙ split (is_member members r)
      (λ g.
      let l = place-below members r g in
      let o : (nat_le 0 (place_of members r) && nat_lt (place_of members r) (0 + length members)) ≡ true = grind (arith, nat_tests) in
      rw (g, o) refl)
      (λ g. rw g refl)

-- each member has a slot of each member
pub all_to_all_exchanges : {M : Type 0} (ops : Algebra M) (members : List ℕ) (tag : Tag) (slot into : ℕ) (state : State M) → AreDistinct members →
    (slot + length members ≤ into) ⊎ (into + length members ≤ slot) → meaning ops (all_to_all_acts members tag slot into) state ≡ exchanged members slot into state
all_to_all_exchanges ops members tag slot into state distinct apart =
    same_state (meaning ops (all_to_all_acts members tag slot into) state) (exchanged members slot into state) (λ r x.
    fills ops (λ s. sent_from members tag slot (into + s) s) (member members) (is_member members) (λ q. slot + place_of members q) into 0 (length members) into state (omega arith)
    (λ k l m. sends_to_all ops members distinct tag slot into k (λ p b. grind (arith, nat_tests, apart)))
    (λ q g. let b = place-below members q g in grind (arith, apart)) r x)
