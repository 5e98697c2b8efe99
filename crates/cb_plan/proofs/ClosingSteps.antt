-- The check of a plan's end, which shuts all lanes one after another.
use Rattle.std.proofs.Common.{◌≡◌, ◌≢◌, ℕ, suc, ◌+◌, ◌-◌, ◌<◌, ◌≤◌, true, false, List, [], ◌∷◌, ◌++◌, length, refl, sym, ap, subst, ◌∙◌, arith}
use Rattle.std.specs.Prelude.{Option, Some, None, ◌==◌, ◌||◌, nat_lt, flat_map}
use Rattle.std.specs.List.{range_with_len}
use Rattle.std.proofs.lemmas.Bool.Decides.{nat_tests}
use Rattle.cb_matrix.specs.Sparse.{Extent}
use Rattle.cb_plan.specs.declared.acts.Act.{Act}
use Rattle.cb_plan.specs.declared.acts.Act.TheVariants as act_is
use Rattle.cb_plan.specs.declared.plans.PlanFault.{PlanFault}
use Rattle.cb_plan.specs.declared.plans.PlanFaultKind.TheVariants as kind_is
use Rattle.cb_plan.specs.Meaning.{State, act}
use Rattle.cb_plan.specs.Algebras.{shapes}
use Rattle.cb_plan.specs.Checks.{Lanes, act_fault, all_hold, are_all_shut, fault_from, fault_or, shut_after}
use Rattle.cb_plan.specs.Closings.{shut_lane, shut_from, shut_acts}
use Rattle.cb_plan.proofs.Effects.{split}
use Rattle.cb_plan.proofs.SoundActs.{is_no_fault}
use Rattle.cb_plan.proofs.CheckSteps.{fault_here, fault_end}
use Rattle.cb_plan.proofs.PassingActs.{shut_is_sound}
use Rattle.cb_plan.proofs.ShutCheck.{each_holds}

-- the acts that shut the lanes from these senders on
abbrev pub senders_left : ℕ → ℕ → List Act
senders_left ranks from = flat_map (shut_from ranks) (range_with_len from (ranks - from))

-- the acts that shut the lanes from a sender to these addressees on, and then those from all later senders
abbrev pub lanes_left : ℕ → ℕ → ℕ → List Act
lanes_left ranks from to = flat_map (shut_lane from) (range_with_len to (ranks - to)) ++ senders_left ranks (from + 1)

-- the check has come to act n, which shuts the lane between two ranks, and to the acts that are left: the lanes from
-- there on are as before, those before it are shut, and the first fault is still that of the acts that are left
pub record HasClosedTo (ranks : ℕ) (state : State Extent) (shut : Lanes) (first : Option PlanFault) (from to n : ℕ) (left : List Act) : Type 0 where
  pub now : Lanes
  pub is : fault_from ranks n state now left ≡ first
  pub room : n + length left ≤ 4294967295
  pub later : (s t : ℕ) → from < s → now s t ≡ shut s t
  pub next : (t : ℕ) → to ≤ t → now from t ≡ shut from t
  pub earlier : (s t : ℕ) → s < from → t < ranks → s ≢ t → now s t ≡ true
  pub before : (t : ℕ) → t < to → t < ranks → from ≢ t → now from t ≡ true

-- it has come as far if the acts that are left are called otherwise
left_as : (ranks : ℕ) (state : State Extent) (shut : Lanes) (first : Option PlanFault) (from to n : ℕ) (left same : List Act) → left ≡ same → HasClosedTo ranks state shut first from to n left → HasClosedTo ranks state shut first from to n same
left_as ranks state shut first from to n left same e h = subst (λ l. HasClosedTo ranks state shut first from to n l) e h

-- at the first lane
pub at_first : (ranks : ℕ) (state : State Extent) (shut : Lanes) (n : ℕ) → n + length (shut_acts ranks) ≤ 4294967295 →
    HasClosedTo ranks state shut (fault_from ranks n state shut (shut_acts ranks)) 0 0 n (senders_left ranks 0)
at_first ranks state shut n l =
    let e : ranks ≡ ranks - 0 = omega arith in
    left_as ranks state shut (fault_from ranks n state shut (shut_acts ranks)) 0 0 n (shut_acts ranks) (senders_left ranks 0)
    (ap (λ k. flat_map (shut_from ranks) (range_with_len 0 k)) e)
    (record {
      now = shut;
      is = refl;
      room = l;
      later = λ s t m. refl;
      next = λ t m. refl;
      earlier = λ s t m. absurd (omega arith);
      before = λ t m. absurd (omega arith);
    })

module _ (ranks : ℕ) (state : State Extent) (shut : Lanes) (first : Option PlanFault) (from : ℕ) where
  -- at the first lane of a sender
  pub at_sender : (n : ℕ) → from < ranks → HasClosedTo ranks state shut first from 0 n (senders_left ranks from) → HasClosedTo ranks state shut first from 0 n (lanes_left ranks from 0)
  at_sender n l h =
      let e : ranks - from ≡ suc (ranks - (from + 1)) = omega arith in
      let f : ranks ≡ ranks - 0 = omega arith in
      left_as ranks state shut first from 0 n (senders_left ranks from) (lanes_left ranks from 0)
      (ap (λ k. flat_map (shut_from ranks) (range_with_len from k)) e ∙ ap (λ k. flat_map (shut_lane from) (range_with_len 0 k) ++ senders_left ranks (from + 1)) f)
      h

  -- past the last sender there is no fault
  pub at_last : (n : ℕ) → ranks ≤ from → HasClosedTo ranks state shut first from 0 n (senders_left ranks from) → None ≡ first
  at_last n l h =
      let e : ranks - from ≡ 0 = omega arith in
      let g = left_as ranks state shut first from 0 n (senders_left ranks from) [] (ap (λ k. flat_map (shut_from ranks) (range_with_len from k)) e) h in
      let shut_is : are_all_shut ranks g.now ≡ true =
      each_holds (λ s. all_hold (λ t. (s == t) || g.now s t) (range_with_len 0 ranks)) 0 ranks (λ s m.
      each_holds (λ t. (s == t) || g.now s t) 0 ranks (λ t k.
      split (s == t)
      (λ u. rw u refl)
      (λ u. let ne : s ≢ t = grind (arith, nat_tests) in rw u (g.earlier s t (omega arith) (omega arith) ne)))) in
      let none : fault_from ranks n state g.now [] ≡ None = fault_end ranks n state g.now ∙ rw shut_is refl in
      sym none ∙ g.is

  module _ (to n : ℕ) (below : to < ranks) (h : HasClosedTo ranks state shut first from to n (lanes_left ranks from to)) where
    more : ranks - to ≡ suc (ranks - (to + 1))
    more = omega arith

    module _ (exists : from < ranks) (ne : from ≢ to) where
      -- the act at hand shuts the lane
      here : HasClosedTo ranks state shut first from to n (act_is.Shut from to ∷ lanes_left ranks from (to + 1))
      here =
          let apart : (from == to) ≡ false = grind (arith, nat_tests) in
          left_as ranks state shut first from to n (lanes_left ranks from to) (act_is.Shut from to ∷ lanes_left ranks from (to + 1))
          (ap (λ k. flat_map (shut_lane from) (range_with_len to k) ++ senders_left ranks (from + 1)) more ∙ rw apart refl) h

      -- past a lane that was open
      pub at_next : shut from to ≡ false → HasClosedTo ranks state shut first from (to + 1) (n + 1) (lanes_left ranks from (to + 1))
      at_next is_open =
          let a : Act = act_is.Shut from to in
          let left : List Act = lanes_left ranks from (to + 1) in
          let now : Lanes = here.now in
          let sound = is_no_fault ranks state now a (shut_is_sound ranks state now from to exists below ne (here.next to (omega arith) ∙ is_open)) in
          record {
            now = shut_after a now;
            is = sym (fault_here ranks n state now a left ∙ ap (λ k. fault_or n k (fault_from ranks (n + 1) (act shapes a state) (shut_after a now) left)) sound) ∙ here.is;
            room = let r = here.room in omega arith;
            later = λ s t m. let o : (from == s) ≡ false = grind (arith, nat_tests) in rw o (here.later s t m);
            next = λ t m.
                let o : (from == from) ≡ true = grind (arith, nat_tests) in
                let p : (to == t) ≡ false = grind (arith, nat_tests) in
                rw (o, p) (here.next t (omega arith));
            earlier = λ s t m k l. let o : (from == s) ≡ false = grind (arith, nat_tests) in rw o (here.earlier s t m k l);
            before = λ t m k l.
                let o : (from == from) ≡ true = grind (arith, nat_tests) in
                split (to == t)
                (λ u. rw (o, u) refl)
                (λ u. let less : t < to = grind (arith, nat_tests) in rw (o, u) (here.before t less k l));
          }

      -- a lane that was shut is the fault
      pub is_fault : shut from to ≡ true → Some (record { act = n; kind = kind_is.AfterShut }) ≡ first
      is_fault closed =
          let a : Act = act_is.Shut from to in
          let left : List Act = lanes_left ranks from (to + 1) in
          let now : Lanes = here.now in
          let x : nat_lt from ranks ≡ true = grind (arith, nat_tests) in
          let y : nat_lt to ranks ≡ true = grind (arith, nat_tests) in
          let z : (from == to) ≡ false = grind (arith, nat_tests) in
          let w : now from to ≡ true = here.next to (omega arith) ∙ closed in
          let fault : act_fault ranks state now a ≡ Some kind_is.AfterShut = rw (x, y, z, w) refl in
          sym (fault_here ranks n state now a left ∙ ap (λ k. fault_or n k (fault_from ranks (n + 1) (act shapes a state) (shut_after a now) left)) fault) ∙ here.is
