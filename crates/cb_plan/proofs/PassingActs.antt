-- Acts that pass the check.
use Rattle.std.proofs.Common.{◌≡◌, ◌≢◌, ℕ, ◌+◌, ◌<◌, true, false, List, [], ◌∷◌, ◌++◌, length, get_or, drop, refl, sym, ap, ◌∙◌, arith}
use Rattle.std.specs.Prelude.{Option, Some, None, ◌==◌, nat_lt}
use Rattle.std.proofs.lemmas.Bool.Decides.{nat_tests}
use Rattle.cb_letters.specs.declared.Tag.{Tag}
use Rattle.cb_matrix.specs.Sparse.{Extent}
use Rattle.cb_plan.specs.declared.acts.Act.{Act}
use Rattle.cb_plan.specs.declared.acts.Act.TheVariants as act_is
use Rattle.cb_plan.specs.declared.plans.PlanFault.{PlanFault}
use Rattle.cb_plan.specs.declared.plans.PlanFaultKind.{PlanFaultKind}
use Rattle.cb_plan.specs.Meaning.{State, act, meaning}
use Rattle.cb_plan.specs.Algebras.{shapes}
use Rattle.cb_plan.specs.Checks.{Lanes, IsSound, Passes, lanes_after, shut_after, act_fault, fault_from, fault_or, are_all_shut}
use Rattle.cb_plan.proofs.SoundActs.{is_no_fault, no_fault}
use Rattle.cb_plan.proofs.CheckSteps.{next_element, fault_here}

-- no fault here, and none later
pub both_none : (n : ℕ) (k : Option PlanFaultKind) (later : Option PlanFault) → fault_or n k later ≡ None → (k ≡ None) × (later ≡ None)
both_none n None later h = (refl, h)
both_none n (Some k) later h = absurd (grind arith)

-- the next act has no fault, nor have those after it
pub no_fault_next : (ranks i : ℕ) (state : State Extent) (shut : Lanes) (acts : List Act) (a : Act) → i < length acts → a ≡ get_or acts i a → fault_from ranks i state shut (drop i acts) ≡ None →
    IsSound ranks state shut a × (fault_from ranks (i + 1) (act shapes a state) (shut_after a shut) (drop (i + 1) acts) ≡ None)
no_fault_next ranks i state shut acts a l e h =
    let parts = both_none i (act_fault ranks state shut a) (fault_from ranks (i + 1) (act shapes a state) (shut_after a shut) (drop (i + 1) acts))
    (sym (ap (fault_from ranks i state shut) (next_element acts i a l e) ∙ fault_here ranks i state shut a (drop (i + 1) acts)) ∙ h) in
    (no_fault ranks state shut a parts.0, parts.1)

-- two lists of acts that pass one after another
pub passes-append : (ranks : ℕ) (state : State Extent) (shut : Lanes) (xs ys : List Act) → Passes ranks state shut xs → Passes ranks (meaning shapes xs state) (lanes_after xs shut) ys → Passes ranks state shut (xs ++ ys)
passes-append ranks state shut [] ys h k = k
passes-append ranks state shut (x ∷ xs) ys h k = (h.0, passes-append ranks (act shapes x state) (shut_after x shut) xs ys h.1 k)

-- the lanes after two lists of acts
pub lanes_after-append : (xs ys : List Act) (shut : Lanes) → lanes_after (xs ++ ys) shut ≡ lanes_after ys (lanes_after xs shut)
lanes_after-append [] ys shut = refl
lanes_after-append (x ∷ xs) ys shut = lanes_after-append xs ys (shut_after x shut)

-- acts that pass, and shut each lane, have no fault
pub passes_check : (ranks n : ℕ) (state : State Extent) (shut : Lanes) (acts : List Act) → Passes ranks state shut acts → are_all_shut ranks (lanes_after acts shut) ≡ true → fault_from ranks n state shut acts ≡ None
unfolding fault_from
passes_check ranks n state shut [] h k = rw k refl
passes_check ranks n state shut (a ∷ acts) h k =
    ap (λ f. fault_or n f (fault_from ranks (n + 1) (act shapes a state) (shut_after a shut) acts)) (is_no_fault ranks state shut a h.0)
    ∙ passes_check ranks (n + 1) (act shapes a state) (shut_after a shut) acts h.1 k

-- and the other way round
pub checked_passes : (ranks n : ℕ) (state : State Extent) (shut : Lanes) (acts : List Act) → fault_from ranks n state shut acts ≡ None → Passes ranks state shut acts
unfolding fault_from
checked_passes ranks n state shut [] h = tt
checked_passes ranks n state shut (a ∷ acts) h =
    let parts = both_none n (act_fault ranks state shut a) (fault_from ranks (n + 1) (act shapes a state) (shut_after a shut) acts) h in
    (no_fault ranks state shut a parts.0, checked_passes ranks (n + 1) (act shapes a state) (shut_after a shut) acts parts.1)

-- a move between two ranks, of a slot that is filled, on a lane that is open
pub move_is_sound : (ranks : ℕ) (state : State Extent) (shut : Lanes) (from to : ℕ) (tag : Tag) (slot into : ℕ) (v : Extent) → from < ranks → to < ranks → from ≢ to → slot < 256 → into < 256 → state from slot ≡ Some v → shut from to ≡ false → IsSound ranks state shut (act_is.Move from to tag slot into)
move_is_sound ranks state shut from to tag slot into v a b c d e f g = record {
  ranks_exist = let x : nat_lt from ranks ≡ true = grind (arith, nat_tests) in let y : nat_lt to ranks ≡ true = grind (arith, nat_tests) in rw (x, y) refl;
  apart = let x : (from == to) ≡ false = grind (arith, nat_tests) in rw x refl;
  slots_exist = let x : nat_lt slot 256 ≡ true = grind (arith, nat_tests) in let y : nat_lt into 256 ≡ true = grind (arith, nat_tests) in rw (x, y) refl;
  filled = rw f refl;
  agree = refl;
  open_lane = rw g refl;
}

-- the shutting of an open lane between two ranks
pub shut_is_sound : (ranks : ℕ) (state : State Extent) (shut : Lanes) (from to : ℕ) → from < ranks → to < ranks → from ≢ to → shut from to ≡ false → IsSound ranks state shut (act_is.Shut from to)
shut_is_sound ranks state shut from to a b c g = record {
  ranks_exist = let x : nat_lt from ranks ≡ true = grind (arith, nat_tests) in let y : nat_lt to ranks ≡ true = grind (arith, nat_tests) in rw (x, y) refl;
  apart = let x : (from == to) ≡ false = grind (arith, nat_tests) in rw x refl;
  slots_exist = refl;
  filled = refl;
  agree = refl;
  open_lane = rw g refl;
}
