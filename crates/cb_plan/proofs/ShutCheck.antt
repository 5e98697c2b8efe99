-- Acts that shut all lanes pass the check if the lanes are open, and leave them shut.
use Rattle.std.proofs.Common.{◌≡◌, ◌≢◌, ℕ, zero, suc, ◌+◌, ◌<◌, ◌≤◌, Bool, true, false, refl, ap, ◌∙◌, arith}
use Rattle.std.specs.Prelude.{◌==◌, ◌&&◌, ◌||◌, not, if◌then◌else◌, nat_lt, nat_le}
use Rattle.std.specs.List.{range_with_len, flat_map}
use Rattle.std.proofs.lemmas.Bool.Decides.{nat_tests}
use Rattle.cb_matrix.specs.Sparse.{Extent}
use Rattle.cb_plan.specs.declared.acts.Act.TheVariants as act_is
use Rattle.cb_plan.specs.Meaning.{State, meaning}
use Rattle.cb_plan.specs.Algebras.{shapes}
use Rattle.cb_plan.specs.Checks.{Lanes, Passes, lanes_after, shut_after, all_hold, are_all_shut}
use Rattle.cb_plan.proofs.Effects.{split}
use Rattle.cb_plan.specs.Closings.{shut_lane, shut_from, shut_acts}
use Rattle.cb_plan.proofs.PassingActs.{passes-append, lanes_after-append, shut_is_sound}

module _ (ranks from : ℕ) (exists : from < ranks) where
  lanes_pass : (a n : ℕ) (state : State Extent) (shut : Lanes) → a + n ≤ ranks → ((t : ℕ) → a ≤ t → shut from t ≡ false) → Passes ranks state shut (flat_map (shut_lane from) (range_with_len a n))
  lanes_pass a zero state shut l is_open = tt
  lanes_pass a (suc n) state shut l is_open =
      split (from == a)
      (λ e. rw e (lanes_pass (a + 1) n state shut (omega arith) (λ t k. is_open t (omega arith))))
      (λ e.
      let still : (t : ℕ) → a + 1 ≤ t → shut_after (act_is.Shut from a) shut from t ≡ false = λ t k.
      let own : (from == from) ≡ true = grind (arith, nat_tests) in
      let apart : (a == t) ≡ false = grind (arith, nat_tests) in
      rw (own, apart) (is_open t (omega arith)) in
      let ne : from ≢ a = grind (arith, nat_tests) in
      rw e (shut_is_sound ranks state shut from a exists (omega arith) ne (is_open a (omega arith)), lanes_pass (a + 1) n state (shut_after (act_is.Shut from a) shut) (omega arith) still))

-- whether a lane is shut by the acts for the addressees from a number on
abbrev is_shut_by : ℕ → ℕ → ℕ → ℕ → ℕ → Bool
is_shut_by from a n s t = (from == s) && ((nat_le a t && nat_lt t (a + n)) && not (s == t))

lanes_from : (from a n : ℕ) (shut : Lanes) (s t : ℕ) → lanes_after (flat_map (shut_lane from) (range_with_len a n)) shut s t ≡ (if is_shut_by from a n s t then true else shut s t)
lanes_from from a zero shut s t =
    let e : (nat_le a t && nat_lt t (a + zero)) ≡ false = grind (arith, nat_tests) in
    split (from == s) (λ h. rw (h, e) refl) (λ h. rw h refl)
lanes_from from a (suc n) shut s t =
    split (from == a)
    (λ e.
    let f : from ≡ a = grind (arith, nat_tests) in
    rw e (lanes_from from (a + 1) n shut s t ∙ ap (λ b. if b then true else shut s t) (split (from == s)
    (λ h. let k : (nat_le (a + 1) t && nat_lt t (a + 1 + n)) && not (s == t) ≡ (nat_le a t && nat_lt t (a + suc n)) && not (s == t) = grind (arith, nat_tests) in rw (h, k) refl)
    (λ h. rw h refl))))
    (λ e.
    rw e (lanes_from from (a + 1) n (shut_after (act_is.Shut from a) shut) s t ∙ split (from == s)
    (λ h. split (a == t)
    (λ k.
    let o : (nat_le (a + 1) t && nat_lt t (a + 1 + n)) ≡ false = grind (arith, nat_tests) in
    let p : (nat_le a t && nat_lt t (a + suc n)) ≡ true = grind (arith, nat_tests) in
    let q : (s == t) ≡ false = grind (arith, nat_tests) in
    rw (h, k, o, p, q) refl)
    (λ k.
    let o : (nat_le a t && nat_lt t (a + suc n)) ≡ (nat_le (a + 1) t && nat_lt t (a + 1 + n)) = grind (arith, nat_tests) in
    rw (h, k, o) refl))
    (λ h. rw h refl)))

-- whether a lane is shut by the acts for the senders from a number on
abbrev is_shut_in : ℕ → ℕ → ℕ → ℕ → ℕ → Bool
is_shut_in ranks a n s t = (nat_le a s && nat_lt s (a + n)) && (nat_lt t ranks && not (s == t))

lanes_in_all : (ranks a n : ℕ) (shut : Lanes) (s t : ℕ) → lanes_after (flat_map (shut_from ranks) (range_with_len a n)) shut s t ≡ (if is_shut_in ranks a n s t then true else shut s t)
lanes_in_all ranks a zero shut s t =
    let e : (nat_le a s && nat_lt s (a + zero)) ≡ false = grind (arith, nat_tests) in rw e refl
lanes_in_all ranks a (suc n) shut s t =
    let after = lanes_after (shut_from ranks a) shut in
    ap (λ lanes. lanes s t) (lanes_after-append (shut_from ranks a) (flat_map (shut_from ranks) (range_with_len (a + 1) n)) shut)
    ∙ lanes_in_all ranks (a + 1) n after s t
    ∙ ap (λ b. if is_shut_in ranks (a + 1) n s t then true else b) (lanes_from a 0 ranks shut s t)
    ∙ (let z : (nat_le 0 t && nat_lt t (0 + ranks)) ≡ nat_lt t ranks = grind (arith, nat_tests) in
    rw z (split (a == s)
    (λ h.
    let o : (nat_le (a + 1) s && nat_lt s (a + 1 + n)) ≡ false = grind (arith, nat_tests) in
    let p : (nat_le a s && nat_lt s (a + suc n)) ≡ true = grind (arith, nat_tests) in
    rw (h, o, p) refl)
    (λ h.
    let o : (nat_le a s && nat_lt s (a + suc n)) ≡ (nat_le (a + 1) s && nat_lt s (a + 1 + n)) = grind (arith, nat_tests) in
    rw (h, o) refl)))

all_pass : (ranks a n : ℕ) (state : State Extent) (shut : Lanes) → a + n ≤ ranks → ((s t : ℕ) → a ≤ s → shut s t ≡ false) → Passes ranks state shut (flat_map (shut_from ranks) (range_with_len a n))
all_pass ranks a zero state shut l is_open = tt
all_pass ranks a (suc n) state shut l is_open =
    passes-append ranks state shut (shut_from ranks a) (flat_map (shut_from ranks) (range_with_len (a + 1) n))
    (lanes_pass ranks a (omega arith) 0 ranks state shut (omega arith) (λ t k. is_open a t (omega arith)))
    (all_pass ranks (a + 1) n (meaning shapes (shut_from ranks a) state) (lanes_after (shut_from ranks a) shut) (omega arith)
    (λ s t k. let e : (a == s) ≡ false = grind (arith, nat_tests) in lanes_from a 0 ranks shut s t ∙ rw e (is_open s t (omega arith))))

-- if all lanes are open, the acts that shut them pass
pub shut_acts_pass : (ranks : ℕ) (state : State Extent) (shut : Lanes) → ((s t : ℕ) → shut s t ≡ false) → Passes ranks state shut (shut_acts ranks)
shut_acts_pass ranks state shut is_open = all_pass ranks 0 ranks state shut (omega arith) (λ s t k. is_open s t)

-- a test that holds of each number of a range holds of all
pub each_holds : (f : ℕ → Bool) (a n : ℕ) → ((k : ℕ) → k < a + n → f k ≡ true) → all_hold f (range_with_len a n) ≡ true
each_holds f a zero h = refl
each_holds f a (suc n) h = rw (h a (omega arith)) (each_holds f (a + 1) n (λ k l. h k (omega arith)))

-- and after them all lanes are shut
pub all_shut_after : (ranks : ℕ) (shut : Lanes) → are_all_shut ranks (lanes_after (shut_acts ranks) shut) ≡ true
all_shut_after ranks shut =
    each_holds (λ s. all_hold (λ t. (s == t) || lanes_after (shut_acts ranks) shut s t) (range_with_len 0 ranks)) 0 ranks (λ s l.
    each_holds (λ t. (s == t) || lanes_after (shut_acts ranks) shut s t) 0 ranks (λ t m.
    split (s == t)
    (λ e. rw e refl)
    (λ e.
    let o : (nat_le 0 s && nat_lt s (0 + ranks)) ≡ true = grind (arith, nat_tests) in
    let p : nat_lt t ranks ≡ true = grind (arith, nat_tests) in
    let q : lanes_after (shut_acts ranks) shut s t ≡ true = lanes_in_all ranks 0 ranks shut s t ∙ rw (o, p, e) refl in
    rw (e, q) refl)))
