-- If some rank is not done, some rank can act.
use Rattle.std.proofs.Common.{◌≡◌, ◌≢◌, ℕ, ◌+◌, ◌-◌, ◌<◌, ◌≤◌, true, false, List, [], ◌∷◌, length, refl, ap, arith, length-append, inl, inr}
use Rattle.std.specs.Prelude.{Option, Some, None, nat_lt, ◌==◌, ◌&&◌, slice_get, if◌then◌else◌, ◌⊎◌}
use Rattle.std.proofs.lemmas.Bool.Decides.{nat_tests}
use Rattle.cb_matrix.specs.Sparse.{Extent}
use Rattle.cb_letters.specs.declared.Tag.{Tag}
use Rattle.cb_letters.specs.declared.Letter.{Letter}
use Rattle.cb_plan.specs.declared.acts.Act.{Act}
use Rattle.cb_plan.specs.declared.acts.Act.TheVariants as act_is
use Rattle.cb_plan.specs.declared.acts.Half.{Half}
use Rattle.cb_plan.specs.declared.acts.Half.TheVariants as half_is
use Rattle.cb_plan.specs.Meaning.{Algebra, State, act}
use Rattle.cb_plan.specs.PlanLetters.{Cargo, count_of, before, letter_of, letters}
use Rattle.cb_plan.specs.Algebras.{shapes}
use Rattle.cb_plan.specs.Checks.{Lanes, IsSound, Passes, shut_after}
use Rattle.cb_plan.specs.Programs.{take_of, halves_of, project_from}
use Rattle.cb_plan.proofs.ActOnStores.{first_below}
use Rattle.cb_rank.specs.Agreement.{AreLettersOf, Agrees, System}
use Rattle.cb_plan.proofs.Effects.{split}
use Rattle.cb_rank.proofs.OwnActs.{some_shape, counted}
use Rattle.cb_rank.proofs.NextAct.{slice_get_right, apart_of, apart_of_shut, both_below}

-- the number of letters that an act, or a list of acts, posts on a lane
abbrev pub posts_of : Act → ℕ → ℕ → ℕ
posts_of (act_is.Move from to tag slot into) s t = if from == s && to == t then 1 else 0
posts_of (act_is.Work rank op) s t = 0
posts_of (act_is.Shut from to) s t = if from == s && to == t then 1 else 0

-- the number of letters that acts post on the lane from s to t
abbrev pub posts : List Act → ℕ → ℕ → ℕ
posts [] s t = 0
posts (a ∷ acts) s t = posts_of a s t + posts acts s t

pub length-letter_of : {M : Type 0} (a : Act) (state : State M) (s t : ℕ) → length (letter_of a state s t) ≡ posts_of a s t
length-letter_of (act_is.Move from to tag slot into) state s t = grind (arith, nat_tests)
length-letter_of (act_is.Work rank op) state s t = refl
length-letter_of (act_is.Shut from to) state s t = grind (arith, nat_tests)

-- it is the number of the acts' letters on that lane
pub length-letters : {M : Type 0} (ops : Algebra M) (acts : List Act) (state : State M) (s t : ℕ) → length (letters ops acts state s t) ≡ posts acts s t
length-letters ops [] state s t = refl
length-letters ops (a ∷ acts) state s t =
    let e = length-letter_of a state s t in
    let i = length-letters ops acts (act ops a state) s t in
    rw length-append (rw (e, i) refl)

-- once every rank has done its half of the first act, the first act plays no part
before_past : (a : Act) (acts : List Act) (r k : ℕ) → count_of a r ≤ k → before (a ∷ acts) r k ≡ a ∷ before acts r (k - count_of a r)
before_past a acts r k h =
    let f : nat_lt k (count_of a r) ≡ false = grind (arith, nat_tests) in
    rw f refl

-- the lengths of the queues, in a system that agrees with the plan
abbrev pub Queued : List Act → (ℕ → ℕ) → (ℕ → ℕ → ℕ) → Type 0
Queued acts done queued = (s t : ℕ) → s ≢ t → posts (before acts t (done t)) s t + queued s t ≡ posts (before acts s (done s)) s t

-- a rank can do this half, where lanes have `queued` letters and room for `capacity`
abbrev pub Can : ℕ → (ℕ → ℕ → ℕ) → ℕ → Option Half → Type 0
Can capacity queued r (Some (half_is.Post to tag slot)) = queued r to < capacity
Can capacity queued r (Some (half_is.Take from tag into shape)) = 0 < queued from r
Can capacity queued r (Some (half_is.Work op)) = Unit {0}
Can capacity queued r (Some (half_is.Shut to)) = queued r to < capacity
Can capacity queued r (Some (half_is.End from)) = 0 < queued from r
Can capacity queued r None = ⊥

-- a rank that is at its half of the first act
first_half : (state : State Extent) (a : Act) (acts : List Act) (r k : ℕ) (h : Half) → k ≡ 0 → halves_of state a r ≡ h ∷ [] → slice_get (project_from state (a ∷ acts) r) k ≡ Some h
first_half state a acts r k h z e = rw (z, e) refl

take_is : (from : ℕ) (tag : Tag) (into : ℕ) (x : Option Extent) (v : Extent) → x ≡ Some v → take_of from tag into x ≡ half_is.Take from tag into v ∷ []
take_is from tag into x v e = rw e refl

module _ (ranks : ℕ) (capacity : ℕ) (queued : ℕ → ℕ → ℕ) (room : 0 < capacity) where
  abbrev pub Moves : State Extent → List Act → (ℕ → ℕ) → Type 0
  Moves state acts done = (r : ℕ) × (r < ranks) × Can capacity queued r (slice_get (project_from state acts r) (done r))

  past : (state : State Extent) (shut : Lanes) (a : Act) (acts : List Act) (done : ℕ → ℕ) → IsSound ranks state shut a → ((r : ℕ) → count_of a r ≤ done r) → Moves (act shapes a state) acts (λ r. done r - count_of a r) → Moves state (a ∷ acts) done
  past state shut a acts done sound all m =
      let size : length (halves_of state a m.0) ≡ count_of a m.0 = counted ranks state shut a m.0 sound in
      let far = all m.0 in
      (m.0, m.1, rw (slice_get_right (halves_of state a m.0) (project_from (act shapes a state) acts m.0) (done m.0) (omega arith)) (rw size m.2))

  queued_past : (a : Act) (acts : List Act) (done : ℕ → ℕ) → ((r : ℕ) → count_of a r ≤ done r) → Queued (a ∷ acts) done queued → Queued acts (λ r. done r - count_of a r) queued
  queued_past a acts done all q s t ne =
      let e = q s t ne in
      let es = before_past a acts s (done s) (all s) in
      let et = before_past a acts t (done t) (all t) in
      let e2 = rw (es, et) at e in
      omega arith

  -- either every rank has done its half of the act, or one of them can do it
  pub ahead : (state : State Extent) (shut : Lanes) (a : Act) (acts : List Act) (done : ℕ → ℕ) → IsSound ranks state shut a → Queued (a ∷ acts) done queued → Moves state (a ∷ acts) done ⊎ ((r : ℕ) → count_of a r ≤ done r)
  ahead state shut (act_is.Work rank op) acts done sound q =
      split (done rank == 0)
      (λ z. let k0 : done rank ≡ 0 = grind (arith, nat_tests) in
      let one : halves_of state (act_is.Work rank op) rank ≡ half_is.Work op ∷ [] = grind (arith, nat_tests) in
      let here = first_below ranks rank [] sound.ranks_exist in
      inl (rank, here.0, rw (first_half state (act_is.Work rank op) acts rank (done rank) (half_is.Work op) k0 one) tt))
      (λ z. inr (λ r. grind (arith, nat_tests)))
  ahead state shut (act_is.Move from to tag slot into) acts done sound q =
      let apart = apart_of ranks state shut from to tag slot into sound in
      let there = both_below ranks from to sound.ranks_exist in
      split (done from == 0)
      (λ z. let k0 : done from ≡ 0 = grind (arith, nat_tests) in
      let own : (from == from) ≡ true = grind (arith, nat_tests) in
      let one : halves_of state (act_is.Move from to tag slot into) from ≡ half_is.Post to tag slot ∷ [] = rw own refl in
      let none : before (act_is.Move from to tag slot into ∷ acts) from (done from) ≡ [] = rw (k0, own) refl in
      let e = rw none at (q from to apart) in
      let few : queued from to < capacity = omega arith in
      inl (from, there.0, rw (first_half state (act_is.Move from to tag slot into) acts from (done from) (half_is.Post to tag slot) k0 one) few))
      (λ z. split (done to == 0)
      (λ y. let k0 : done to ≡ 0 = grind (arith, nat_tests) in
      let filled = some_shape (state from slot) sound.filled in
      let other : (from == to) ≡ false = grind (arith, nat_tests) in
      let own : (to == to) ≡ true = grind (arith, nat_tests) in
      let one : halves_of state (act_is.Move from to tag slot into) to ≡ half_is.Take from tag into filled.0 ∷ [] = rw (other, own) (take_is from tag into (state from slot) filled.0 filled.1) in
      let mine : (from == from) ≡ true = grind (arith, nat_tests) in
      let none : before (act_is.Move from to tag slot into ∷ acts) to (done to) ≡ [] = rw (k0, other, own) refl in
      let gone = before_past (act_is.Move from to tag slot into) acts from (done from) (rw mine (grind (arith, nat_tests))) in
      let posted : posts_of (act_is.Move from to tag slot into) from to ≡ 1 = rw (mine, own) refl in
      let e = rw (none, gone, posted) at (q from to apart) in
      let some : 0 < queued from to = omega arith in
      inl (to, there.1, rw (first_half state (act_is.Move from to tag slot into) acts to (done to) (half_is.Take from tag into filled.0) k0 one) some))
      (λ y. inr (λ r. grind (arith, nat_tests))))
  ahead state shut (act_is.Shut from to) acts done sound q =
      let apart = apart_of_shut ranks state shut from to sound in
      let there = both_below ranks from to sound.ranks_exist in
      split (done from == 0)
      (λ z. let k0 : done from ≡ 0 = grind (arith, nat_tests) in
      let own : (from == from) ≡ true = grind (arith, nat_tests) in
      let one : halves_of state (act_is.Shut from to) from ≡ half_is.Shut to ∷ [] = rw own refl in
      let none : before (act_is.Shut from to ∷ acts) from (done from) ≡ [] = rw (k0, own) refl in
      let e = rw none at (q from to apart) in
      let few : queued from to < capacity = omega arith in
      inl (from, there.0, rw (first_half state (act_is.Shut from to) acts from (done from) (half_is.Shut to) k0 one) few))
      (λ z. split (done to == 0)
      (λ y. let k0 : done to ≡ 0 = grind (arith, nat_tests) in
      let other : (from == to) ≡ false = grind (arith, nat_tests) in
      let own : (to == to) ≡ true = grind (arith, nat_tests) in
      let one : halves_of state (act_is.Shut from to) to ≡ half_is.End from ∷ [] = rw (other, own) refl in
      let mine : (from == from) ≡ true = grind (arith, nat_tests) in
      let none : before (act_is.Shut from to ∷ acts) to (done to) ≡ [] = rw (k0, other, own) refl in
      let gone = before_past (act_is.Shut from to) acts from (done from) (rw mine (grind (arith, nat_tests))) in
      let posted : posts_of (act_is.Shut from to) from to ≡ 1 = rw (mine, own) refl in
      let e = rw (none, gone, posted) at (q from to apart) in
      let some : 0 < queued from to = omega arith in
      inl (to, there.1, rw (first_half state (act_is.Shut from to) acts to (done to) (half_is.End from) k0 one) some))
      (λ y. inr (λ r. grind (arith, nat_tests))))

  -- if some rank is not done, some rank can act
  pub someone_moves : (state : State Extent) (shut : Lanes) (acts : List Act) (done : ℕ → ℕ) → Passes ranks state shut acts → Queued acts done queued → (waits : ℕ) → done waits < length (project_from state acts waits) → Moves state acts done
  someone_moves state shut [] done passes q waits h = absurd (omega arith)
  someone_moves state shut (a ∷ acts) done passes q waits h =
      elim (ahead state shut a acts done passes.0 q) [
        | inl m ↦ m
        | inr all ↦
            past state shut a acts done passes.0 all
            (someone_moves (act shapes a state) (shut_after a shut) acts (λ r. done r - count_of a r) passes.1 (queued_past a acts done all q) waits
            (let l = all waits in let size = counted ranks state shut a waits passes.0 in omega (arith, length-append (halves_of state a waits) (project_from (act shapes a state) acts waits))))
      ]

pub letters_length : {M : Type 0} (r : ℕ → ℕ) (from to n : ℕ) (ws : List (Tag × Cargo M)) (ls : List (Letter M)) → AreLettersOf r from to n ws ls → length ws ≡ length ls
letters_length r from to n [] [] h = refl
letters_length r from to n (w ∷ ws) (l ∷ ls) h = let e = letters_length r from to (n + 1) ws ls h.3 in grind arith
letters_length r from to n [] (l ∷ ls) h = absurd h
letters_length r from to n (w ∷ ws) [] h = absurd h

-- if a system agrees with the plan, its queues have the lengths that the plan says
pub queued_of_agrees : {M : Type 0} (ops : Algebra M) (acts : List Act) (first : State M) (now : System M) → Agrees ops acts first now → Queued acts now.done (λ s t. length (now.lane s t).queue)
queued_of_agrees ops acts first now agrees s t ne =
    let h = agrees.lanes s t ne in
    let l = letters_length now.refusals s t (now.lane s t).taken h.waits.0 (now.lane s t).queue h.waits.2 in
    let a = length-append (letters ops (before acts t (now.done t)) first s t) h.waits.0 in
    let e = ap length h.waits.1 in
    let ps = length-letters ops (before acts s (now.done s)) first s t in
    let pt = length-letters ops (before acts t (now.done t)) first s t in
    omega arith
