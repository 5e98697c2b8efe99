-- Acts that send slots pass the check: those of gather and all_to_all.
use Rattle.std.proofs.Common.{◌≡◌, ℕ, zero, suc, ◌+◌, ◌<◌, ◌≤◌, true, false, List, map, length, refl, sym, ap, subst, ◌∙◌, arith}
use Rattle.std.specs.Prelude.{is_some, ◌==◌, ◌&&◌, nat_lt}
use Rattle.std.specs.List.{range_with_len, flat_map}
use Rattle.std.proofs.lemmas.Bool.Decides.{nat_tests}
use Rattle.cb_letters.specs.declared.Tag.{Tag}
use Rattle.cb_matrix.specs.Sparse.{Extent}
use Rattle.cb_plan.specs.declared.acts.Act.{Act}
use Rattle.cb_plan.specs.Meaning.{State, act, meaning}
use Rattle.cb_plan.specs.Algebras.{shapes}
use Rattle.cb_plan.specs.Checks.{Lanes, IsSound, Passes, lanes_after, shut_after}
use Rattle.cb_plan.proofs.Effects.{split}
use Rattle.cb_plan_parts.specs.Collectives.{member, sent, sent_from, all_to_all_acts}
use Rattle.cb_plan_parts.proofs.SendMeaning.{act_sent}
use Rattle.cb_plan.proofs.PassingActs.{passes-append}

sent_keeps_lanes : (from to : ℕ) (tag : Tag) (slot into : ℕ) (shut : Lanes) → shut_after (sent from to tag slot into) shut ≡ shut
sent_keeps_lanes from to tag slot into shut = split (from == to) (λ t. rw t refl) (λ t. rw t refl)

-- what is filled stays so if what is sent is filled
sent_keeps_filled : (state : State Extent) (from to : ℕ) (tag : Tag) (slot into : ℕ) → is_some (state from slot) ≡ true → (r n : ℕ) → is_some (state r n) ≡ true → is_some (act shapes (sent from to tag slot into) state r n) ≡ true
sent_keeps_filled state from to tag slot into filled r n h =
    ap (λ x. is_some x) (act_sent shapes from to tag slot into state r n) ∙ split (to == r && into == n) (λ t. rw t filled) (λ t. rw t h)

pub sent_is_sound : (ranks : ℕ) (state : State Extent) (shut : Lanes) (from to : ℕ) (tag : Tag) (slot into : ℕ) → from < ranks → to < ranks → slot < 256 → into < 256 → is_some (state from slot) ≡ true → shut from to ≡ false → IsSound ranks state shut (sent from to tag slot into)
sent_is_sound ranks state shut from to tag slot into a b c d e f =
    let p : nat_lt from ranks ≡ true = grind (arith, nat_tests) in
    let q : nat_lt to ranks ≡ true = grind (arith, nat_tests) in
    let x : nat_lt slot 256 ≡ true = grind (arith, nat_tests) in
    let y : nat_lt into 256 ≡ true = grind (arith, nat_tests) in
    split (from == to)
    (λ t.
    let g : from ≡ to = grind (arith, nat_tests) in
    let h : is_some (state to slot) ≡ true = ap (λ r. is_some (state r slot)) (sym g) ∙ e in
    rw t (record { ranks_exist = rw q refl; apart = refl; slots_exist = rw (y, x) refl; filled = rw h refl; agree = refl; open_lane = refl }))
    (λ t. rw t (record { ranks_exist = rw (p, q) refl; apart = rw t refl; slots_exist = rw (x, y) refl; filled = e; agree = refl; open_lane = rw f refl }))

-- slots sent one after another, each of them filled before the first
module _ (ranks : ℕ) (tag : Tag) (shut : Lanes) (open_lanes : (s t : ℕ) → shut s t ≡ false) (from to slot into : ℕ → ℕ) (limit : ℕ)
    (exist : (k : ℕ) → k < limit → (from k < ranks) × (to k < ranks) × (slot k < 256) × (into k < 256)) where
  abbrev pub sends : ℕ → ℕ → List Act
  sends a n = map (λ k. sent (from k) (to k) tag (slot k) (into k)) (range_with_len a n)

  -- no lane is shut
  pub sends_keep_lanes : (a n : ℕ) → lanes_after (sends a n) shut ≡ shut
  sends_keep_lanes a zero = refl
  sends_keep_lanes a (suc n) = ap (lanes_after (sends (a + 1) n)) (sent_keeps_lanes (from a) (to a) tag (slot a) (into a) shut) ∙ sends_keep_lanes (a + 1) n

  sends_keep_filled : (a n : ℕ) (state : State Extent) → a + n ≤ limit → ((k : ℕ) → k < limit → is_some (state (from k) (slot k)) ≡ true) → (r x : ℕ) → is_some (state r x) ≡ true → is_some (meaning shapes (sends a n) state r x) ≡ true
  sends_keep_filled a zero state l filled r x h = h
  sends_keep_filled a (suc n) state l filled r x h =
      let keeps = sent_keeps_filled state (from a) (to a) tag (slot a) (into a) (filled a (omega arith)) in
      sends_keep_filled (a + 1) n (act shapes (sent (from a) (to a) tag (slot a) (into a)) state) (omega arith) (λ k m. keeps (from k) (slot k) (filled k m)) r x (keeps r x h)

  -- they pass the check
  pub sends_pass : (a n : ℕ) (state : State Extent) → a + n ≤ limit → ((k : ℕ) → k < limit → is_some (state (from k) (slot k)) ≡ true) → Passes ranks state shut (sends a n)
  sends_pass a zero state l filled = tt
  sends_pass a (suc n) state l filled =
      let x : Act = sent (from a) (to a) tag (slot a) (into a) in
      let here = exist a (omega arith) in
      let keeps = sent_keeps_filled state (from a) (to a) tag (slot a) (into a) (filled a (omega arith)) in
      let rest = sends_pass (a + 1) n (act shapes x state) (omega arith) (λ k m. keeps (from k) (slot k) (filled k m)) in (
        sent_is_sound ranks state shut (from a) (to a) tag (slot a) (into a) here.0 here.1 here.2 here.3 (filled a (omega arith)) (open_lanes (from a) (to a)),
        subst (λ (lanes : Lanes). Passes ranks (act shapes x state) lanes (sends (a + 1) n)) (sym (sent_keeps_lanes (from a) (to a) tag (slot a) (into a) shut)) rest,
      )

module _ (ranks : ℕ) (members : List ℕ) (tag : Tag) (slot into : ℕ) (shut : Lanes) (open_lanes : (s t : ℕ) → shut s t ≡ false)
    (below : (p : ℕ) → p < length members → member members p < ranks) (read : slot + length members ≤ 256) (set : into + length members ≤ 256) where
  all_pass_from : (a n : ℕ) (state : State Extent) → a + n ≤ length members → ((p q : ℕ) → p < length members → q < length members → is_some (state (member members p) (slot + q)) ≡ true) →
      Passes ranks state shut (flat_map (λ s. sent_from members tag slot (into + s) s) (range_with_len a n))
  all_pass_from a zero state l filled = tt
  all_pass_from a (suc n) state l filled =
      let exist : (k : ℕ) → k < length members → (member members a < ranks) × (member members k < ranks) × (slot + k < 256) × (into + a < 256) =
      λ k m. (below a (omega arith), below k m, omega arith, omega arith) in
      let here = λ (k : ℕ) (m : k < length members). filled a k (omega arith) m in
      let first = sent_from members tag slot (into + a) a in
      let keeps = sends_keep_filled ranks tag shut open_lanes (λ k. member members a) (member members) (λ k. slot + k) (λ k. into + a) (length members) exist 0 (length members) state (omega arith) here in
      passes-append ranks state shut first (flat_map (λ s. sent_from members tag slot (into + s) s) (range_with_len (a + 1) n))
      (sends_pass ranks tag shut open_lanes (λ k. member members a) (member members) (λ k. slot + k) (λ k. into + a) (length members) exist 0 (length members) state (omega arith) here)
      (subst (λ (lanes : Lanes). Passes ranks (meaning shapes first state) lanes (flat_map (λ s. sent_from members tag slot (into + s) s) (range_with_len (a + 1) n)))
      (sym (sends_keep_lanes ranks tag shut open_lanes (λ k. member members a) (member members) (λ k. slot + k) (λ k. into + a) (length members) exist 0 (length members)))
      (all_pass_from (a + 1) n (meaning shapes first state) (omega arith) (λ p q m o. keeps (member members p) (slot + q) (filled p q m o))))

  -- an exchange passes if the members are ranks, what they send is filled and the lanes are open
  pub all_to_all_passes : (state : State Extent) → ((p q : ℕ) → p < length members → q < length members → is_some (state (member members p) (slot + q)) ≡ true) →
      Passes ranks state shut (all_to_all_acts members tag slot into)
  all_to_all_passes state filled = all_pass_from 0 (length members) state (omega arith) filled
