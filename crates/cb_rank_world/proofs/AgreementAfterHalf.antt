-- A step of one rank preserves the agreement of the whole system.
use Rattle.std.proofs.Common.{◌≡◌, ◌≢◌, ℕ, ◌-◌, true, false, List, [], ◌∷◌, ◌++◌, refl, sym, ◌∙◌, ap, arith, subst, append-nil, append_assoc, inl, inr}
use Rattle.std.specs.Prelude.{Some, IsSome, nat_lt, ◌==◌, ◌&&◌, slice_get}
use Rattle.std.proofs.lemmas.Bool.Decides.{nat_tests}
use Rattle.cb_semirings.specs.Arithmetic.{Arithmetic}
use Rattle.cb_matrix.specs.Sparse.{Sparse, Extent}
use Rattle.cb_letters.specs.declared.Tag.{Tag}
use Rattle.cb_letters.specs.Letters.{mark_tag}
use Rattle.cb_plan.specs.declared.acts.Op.{Op}
use Rattle.cb_plan.specs.declared.acts.Act.{Act}
use Rattle.cb_plan.specs.declared.acts.Act.TheVariants as act_is
use Rattle.cb_plan.specs.declared.acts.Half.{Half}
use Rattle.cb_plan.specs.declared.acts.Half.TheVariants as half_is
use Rattle.cb_plan.specs.Meaning.{Algebra, State, act, meaning, one, images, target_of}
use Rattle.cb_plan.specs.PlanLetters.{Cargo, Sheet, Mark, count_of, before, next_act, letter_of, letters}
use Rattle.cb_plan.specs.Algebras.{matrices, shapes}
use Rattle.cb_plan.specs.Checks.{Lanes, IsSound, Passes, shut_after, lanes_after, none_shut, operands_of}
use Rattle.cb_plan.specs.Programs.{halves_of, project_from}
use Rattle.cb_plan.proofs.ShapesOfMeaning.{shapes_of_meaning}
use Rattle.cb_rank.specs.Agreement.{IsSlotOf, System, LaneAgrees, Agrees, ends_marked}
use Rattle.cb_rank.specs.Halves.{slot_at, slot_of_body}
use Rattle.cb_plan.proofs.Effects.{split}
use Rattle.cb_rank.proofs.OwnActs.{meaning-next, letters-next}
use Rattle.cb_rank.proofs.ByOperation.{AllSome}
use Rattle.cb_rank.proofs.Halves.{is_post, is_take, is_work, is_shut, is_end, copied, arrived_slot, some_by_shape, all_some, worked}
use Rattle.cb_rank.proofs.NextAct.{act_of_half, next_sound, apart_of, apart_of_shut, not_true}
use Rattle.cb_rank_world.proofs.LaneAfterHalf.{slot_later, lane_still, lane_posts, lane_takes}
use Rattle.cb_rank_world.proofs.SystemHalf.{Did, Moves}

-- what a rank has posted or taken is a prefix of the letters of the lane
pub letters_begin : {M : Type 0} (ops : Algebra M) (acts : List Act) (r k : ℕ) (state : State M) (s t : ℕ) → (rest : List (Tag × Cargo M)) × (letters ops (before acts r k) state s t ++ rest ≡ letters ops acts state s t)
letters_begin ops [] r k state s t = ([], refl)
letters_begin ops (a ∷ acts) r k state s t =
    let i = letters_begin ops acts r (k - count_of a r) (act ops a state) s t in
    split (nat_lt k (count_of a r))
    (λ u. (letters ops (a ∷ acts) state s t, rw u refl))
    (λ f. (i.0, rw f (append_assoc (letter_of a state s t) _ i.0 ∙ ap (λ x. letter_of a state s t ++ x) i.1)))

-- none of the letters is a close mark
abbrev pub NoMark : {M : Type 0} → List (Tag × Cargo M) → Type 0
NoMark [] = Unit {0}
NoMark ((tag, Sheet m) ∷ ws) = NoMark ws
NoMark ((tag, Mark) ∷ ws) = ⊥

-- letters without a close mark do not end with one
pub unmarked : {M : Type 0} (ws : List (Tag × Cargo M)) → NoMark ws → ends_marked ws ≡ false
unmarked [] h = refl
unmarked ((tag, Sheet m) ∷ []) h = refl
unmarked ((tag, Sheet m) ∷ (v ∷ ws)) h = unmarked (v ∷ ws) h
unmarked ((tag, Mark) ∷ ws) h = absurd h

-- an act leaves a shut lane shut
pub kept_shut : (a : Act) (shut : Lanes) (s t : ℕ) → shut s t ≡ true → shut_after a shut s t ≡ true
kept_shut (act_is.Move from to tag slot into) shut s t e = e
kept_shut (act_is.Work rank op) shut s t e = e
kept_shut (act_is.Shut from to) shut s t e = split (from == s && to == t) (λ u. rw u refl) (λ u. rw u e)

-- acts leave a shut lane shut
stays_shut : (acts : List Act) (shut : Lanes) (s t : ℕ) → shut s t ≡ true → lanes_after acts shut s t ≡ true
stays_shut [] shut s t e = e
stays_shut (a ∷ acts) shut s t e = stays_shut acts (shut_after a shut) s t (kept_shut a shut s t e)

-- if a lane is open after some acts, they put no close mark on it
pub letters_unmarked : {M : Type 0} (ops : Algebra M) (acts : List Act) (state : State M) (shut : Lanes) (s t : ℕ) → lanes_after acts shut s t ≡ false → NoMark (letters ops acts state s t)
letters_unmarked ops [] state shut s t e = tt
letters_unmarked ops (act_is.Move from to tag slot into ∷ acts) state shut s t e =
    let i = letters_unmarked ops acts (act ops (act_is.Move from to tag slot into) state) (shut_after (act_is.Move from to tag slot into) shut) s t e in
    split (from == s && to == t) (λ u. rw u i) (λ u. rw u i)
letters_unmarked ops (act_is.Work rank op ∷ acts) state shut s t e = letters_unmarked ops acts (act ops (act_is.Work rank op) state) (shut_after (act_is.Work rank op) shut) s t e
letters_unmarked ops (act_is.Shut from to ∷ acts) state shut s t e =
    let i = letters_unmarked ops acts (act ops (act_is.Shut from to) state) (shut_after (act_is.Shut from to) shut) s t e in
    split (from == s && to == t)
    (λ u.
    let now : shut_after (act_is.Shut from to) shut s t ≡ true = rw u refl in
    let still = stays_shut acts (shut_after (act_is.Shut from to) shut) s t now in
    let both : true ≡ false = sym still ∙ e in
    cc)
    (λ u. rw u i)

module _ (s : Arithmetic) (acts : List Act) (first : State Sparse) (r : ℕ) (a : Act) (h : Half) (now after : System Sparse) (is : next_act acts r (now.done r) ≡ Some a) (steps : Moves s r h now after) (agrees : Agrees (matrices s) acts first now) where
  abbrev ops : Algebra Sparse
  ops = matrices s

  -- the state before the act
  abbrev here : State Sparse
  here = meaning ops (before acts r (now.done r)) first

  abbrev at : ℕ → (ℕ → ℕ) → ℕ → ℕ → List (Tag × Cargo Sparse)
  at p done f t = letters ops (before acts p (done p)) first f t

  -- the other ranks' slots
  pub others_agree : (q n : ℕ) → q ≢ r → IsSlotOf after.refusals (meaning ops (before acts q (after.done q)) first q n) (after.slots q n)
  others_agree q n ne =
      rw (steps.others_done q ne, steps.others_slots q n ne) (slot_later now.refusals after.refusals _ (now.slots q n) steps.refusals (agrees.ranks q n))

  pub own_before : (n : ℕ) → IsSlotOf after.refusals (here r n) (now.slots r n)
  own_before n = slot_later now.refusals after.refusals _ (now.slots r n) steps.refusals (agrees.ranks r n)

  -- the rank's slots, if they are what the act makes of them
  pub ranks_agree : ((n : ℕ) → IsSlotOf after.refusals (act ops a here r n) (after.slots r n)) → (q n : ℕ) → IsSlotOf after.refusals (meaning ops (before acts q (after.done q)) first q n) (after.slots q n)
  ranks_agree own q n =
      split (q == r)
      (λ t. let e : q ≡ r = grind (arith, nat_tests) in rw e (rw steps.done (rw (meaning-next ops acts r (now.done r) first a n is) (own n))))
      (λ f. others_agree q n (grind (arith, nat_tests)))

  -- what a rank has posted or taken on a lane
  pub sent_grows : (t : ℕ) → at r after.done r t ≡ at r now.done r t ++ letter_of a here r t
  sent_grows t = rw steps.done (letters-next ops acts r (now.done r) first a r t (inl refl) is)

  pub received_grows : (f : ℕ) → at r after.done f r ≡ at r now.done f r ++ letter_of a here f r
  received_grows f = rw steps.done (letters-next ops acts r (now.done r) first a f r (inr refl) is)

  pub same_elsewhere : (p f t : ℕ) → p ≢ r → at p after.done f t ≡ at p now.done f t
  same_elsewhere p f t ne = rw (steps.others_done p ne) refl

  pub sent_stays : (f t : ℕ) → letter_of a here f t ≡ [] → at f after.done f t ≡ at f now.done f t
  sent_stays f t none =
      split (f == r)
      (λ u. let e : f ≡ r = grind (arith, nat_tests) in let e2 = rw e at none in rw e (sent_grows t ∙ (rw e2 (append-nil _))))
      (λ u. same_elsewhere f f t (grind (arith, nat_tests)))

  pub received_stays : (f t : ℕ) → letter_of a here f t ≡ [] → at t after.done f t ≡ at t now.done f t
  received_stays f t none =
      split (t == r)
      (λ u. let e : t ≡ r = grind (arith, nat_tests) in let e2 = rw e at none in rw e (received_grows f ∙ (rw e2 (append-nil _))))
      (λ u. same_elsewhere t f t (grind (arith, nat_tests)))

  -- a lane on which the act posts nothing
  pub lane_stays : (f t : ℕ) → f ≢ t → letter_of a here f t ≡ [] → after.lane f t ≡ now.lane f t → LaneAgrees (at f after.done f t) (at t after.done f t) after.refusals f t (after.lane f t)
  lane_stays f t ne none stays =
      rw stays
      (lane_still now.refusals after.refusals (at f now.done f t) (at f after.done f t) (at t now.done f t) (at t after.done f t) f t (now.lane f t) steps.refusals (sent_stays f t none) (received_stays f t none) (agrees.lanes f t ne))

  pub post_agrees : (to : ℕ) (tag : Tag) (slot into : ℕ) → a ≡ act_is.Move r to tag slot into → r ≢ to → IsSome (here r slot) → ends_marked (at r now.done r to) ≡ false → Did s r (half_is.Post to tag slot) now after → Agrees ops acts first after
  post_agrees to tag slot into e apart some unshut did = record {
    ranks = ranks_agree (λ n. let f : (to == r) ≡ false = grind (arith, nat_tests) in rw (e, f, did.4.stay n) (own_before n));
    lanes = λ f t ne.
        split (f == r)
        (λ u. split (t == to)
        (λ v.
        let es : f ≡ r = grind (arith, nat_tests) in
        let et : t ≡ to = grind (arith, nat_tests) in
        let away : to ≢ r = λ x. apart (sym x) in
        let one : letter_of a here r to ≡ (tag, Sheet (here r slot)) ∷ [] = rw e (grind (arith, nat_tests)) in
        let grown : at r after.done r to ≡ at r now.done r to ++ (tag, Sheet (here r slot)) ∷ [] = sent_grows to ∙ rw one refl in
        rw (es, et) (rw (did.3.lane, same_elsewhere to r to away)
        (lane_posts now.refusals after.refusals (at r now.done r to) (at r after.done r to) (at to now.done r to) r to (now.lane r to) (tag, Sheet (here r slot)) did.0 steps.refusals grown unshut did.3.addressed did.1 (copied now.refusals after.refusals r (here r slot) (now.slots r slot) did.0.body steps.refusals some (agrees.ranks r slot) did.2) (agrees.lanes r to apart))))
        (λ v. lane_stays f t ne (rw e (grind (arith, nat_tests))) (did.3.others.by_addressee f t (grind (arith, nat_tests)))))
        (λ u. lane_stays f t ne (rw e (grind (arith, nat_tests))) (did.3.others.by_sender f t (grind (arith, nat_tests))));
  }

  pub take_agrees : (from : ℕ) (tag : Tag) (slot into : ℕ) (shape : Extent) → a ≡ act_is.Move from r tag slot into → from ≢ r → Did s r (half_is.Take from tag into shape) now after → Agrees ops acts first after
  take_agrees from tag slot into shape e apart did =
      let one : letter_of a here from r ≡ (tag, Sheet (here from slot)) ∷ [] = rw e (grind (arith, nat_tests)) in
      let grown : at r after.done from r ≡ at r now.done from r ++ (tag, Sheet (here from slot)) ∷ [] = received_grows from ∙ rw one refl in
      let sent = letters_begin ops acts from (now.done from) first from r in
      let received = letters_begin ops acts r (after.done r) first from r in
      let took = lane_takes now.refusals after.refusals (at from now.done from r) (at r now.done from r) (at r after.done from r) (letters ops acts first from r) sent.0 received.0 from r (now.lane from r) (after.lane from r) (tag, Sheet (here from slot)) did.0 steps.refusals sent.1 received.1 grown did.1.queue did.1.taken did.1.closed (agrees.lanes from r apart) in
      record {
        ranks = ranks_agree (λ n.
            let t : (r == r) ≡ true = grind (arith, nat_tests) in
            split (into == n)
            (λ u.
            let same : into ≡ n = grind (arith, nat_tests) in
            let set = rw same at did.2.set in
            rw (e, t, u, set) (slot_later now.refusals after.refusals (here from slot) (slot_of_body did.0.body) steps.refusals (arrived_slot now.refusals (here from slot) did.0.body took.1)))
            (λ u. let ne : into ≢ n = grind (arith, nat_tests) in let kept = did.2.stay n ne in rw (e, t, u, kept) (own_before n)));
        lanes = λ f t ne.
            split (t == r)
            (λ u. split (f == from)
            (λ v.
            let et : t ≡ r = grind (arith, nat_tests) in
            let es : f ≡ from = grind (arith, nat_tests) in
            rw (es, et) (rw (same_elsewhere from from r apart) took.2))
            (λ v. lane_stays f t ne (rw e (grind (arith, nat_tests))) (did.1.others.by_sender f t (grind (arith, nat_tests)))))
            (λ u. lane_stays f t ne (rw e (grind (arith, nat_tests))) (did.1.others.by_addressee f t (grind (arith, nat_tests))));
      }

  pub work_agrees : (op : Op) → a ≡ act_is.Work r op → AllSome (here r) (operands_of op) → Did s r (half_is.Work op) now after → Agrees ops acts first after
  work_agrees op e filled did = record {
    ranks = ranks_agree (λ n.
        let t : (r == r) ≡ true = grind (arith, nat_tests) in
        split (target_of op == n)
        (λ u.
        let same : target_of op ≡ n = grind (arith, nat_tests) in
        let set = rw same at did.2.2.set in
        let own : (k : ℕ) → IsSlotOf after.refusals (here r k) (slot_at did.0 k) = λ k. subst (λ y. IsSlotOf after.refusals (here r k) y) (did.1 k) (own_before k) in
        let there = worked s now.refusals after.refusals r op (here r) did.0 did.2.0 filled own did.2.1 in
        rw (e, t, u, set) there)
        (λ u.
        let ne : target_of op ≢ n = grind (arith, nat_tests) in
        rw (e, t, u, did.2.2.stay n ne) (own_before n)));
    lanes = λ f t ne. lane_stays f t ne (rw e refl) (did.2.3 f t);
  }

  pub shut_agrees : (to : ℕ) → a ≡ act_is.Shut r to → r ≢ to → ends_marked (at r now.done r to) ≡ false → Did s r (half_is.Shut to) now after → Agrees ops acts first after
  shut_agrees to e apart unshut did = record {
    ranks = ranks_agree (λ n. rw (e, did.4.stay n) (own_before n));
    lanes = λ f t ne.
        split (f == r)
        (λ u. split (t == to)
        (λ v.
        let es : f ≡ r = grind (arith, nat_tests) in
        let et : t ≡ to = grind (arith, nat_tests) in
        let away : to ≢ r = λ x. apart (sym x) in
        let one : letter_of a here r to ≡ (mark_tag, Mark) ∷ [] = rw e (grind (arith, nat_tests)) in
        let grown : at r after.done r to ≡ at r now.done r to ++ (mark_tag, Mark) ∷ [] = sent_grows to ∙ rw one refl in
        rw (es, et) (rw (did.3.lane, same_elsewhere to r to away)
        (lane_posts now.refusals after.refusals (at r now.done r to) (at r after.done r to) (at to now.done r to) r to (now.lane r to) (mark_tag, Mark) did.0 steps.refusals grown unshut did.3.addressed did.1 (rw did.2 refl) (agrees.lanes r to apart))))
        (λ v. lane_stays f t ne (rw e (grind (arith, nat_tests))) (did.3.others.by_addressee f t (grind (arith, nat_tests)))))
        (λ u. lane_stays f t ne (rw e (grind (arith, nat_tests))) (did.3.others.by_sender f t (grind (arith, nat_tests))));
  }

  pub end_agrees : (from : ℕ) → a ≡ act_is.Shut from r → from ≢ r → Did s r (half_is.End from) now after → Agrees ops acts first after
  end_agrees from e apart did =
      let one : letter_of a here from r ≡ (mark_tag, Mark) ∷ [] = rw e (grind (arith, nat_tests)) in
      let grown : at r after.done from r ≡ at r now.done from r ++ (mark_tag, Mark) ∷ [] = received_grows from ∙ rw one refl in
      let sent = letters_begin ops acts from (now.done from) first from r in
      let received = letters_begin ops acts r (after.done r) first from r in
      let took = lane_takes now.refusals after.refusals (at from now.done from r) (at r now.done from r) (at r after.done from r) (letters ops acts first from r) sent.0 received.0 from r (now.lane from r) (after.lane from r) (mark_tag, Mark) did.0 steps.refusals sent.1 received.1 grown did.1.queue did.1.taken did.1.closed (agrees.lanes from r apart) in
      record {
        ranks = ranks_agree (λ n. rw (e, did.2.stay n) (own_before n));
        lanes = λ f t ne.
            split (t == r)
            (λ u. split (f == from)
            (λ v.
            let et : t ≡ r = grind (arith, nat_tests) in
            let es : f ≡ from = grind (arith, nat_tests) in
            rw (es, et) (rw (same_elsewhere from from r apart) took.2))
            (λ v. lane_stays f t ne (rw e (grind (arith, nat_tests))) (did.1.others.by_sender f t (grind (arith, nat_tests)))))
            (λ u. lane_stays f t ne (rw e (grind (arith, nat_tests))) (did.1.others.by_addressee f t (grind (arith, nat_tests))));
      }

module _ (s : Arithmetic) (ranks : ℕ) (acts : List Act) (first : State Sparse) (r : ℕ) (a : Act) (sh : State Extent) (shut : Lanes) (now after : System Sparse) (is : next_act acts r (now.done r) ≡ Some a) (sound : IsSound ranks sh shut a)
    (same : (q n : ℕ) → sh q n ≡ one (λ (m : Sparse). m.shape) (meaning (matrices s) (before acts r (now.done r)) first q n))
    (unshut : (t : ℕ) → shut r t ≡ false → ends_marked (letters (matrices s) (before acts r (now.done r)) first r t) ≡ false) where
  -- whichever half a rank does, the agreement is preserved
  pub step_by_half : (h : Half) → halves_of sh a r ≡ h ∷ [] → Moves s r h now after → Agrees (matrices s) acts first now → Agrees (matrices s) acts first after
  step_by_half (half_is.Post to tag slot) e steps agrees =
      let k = is_post sh a r to tag slot e in
      let x = subst (λ b. IsSound ranks sh shut b) k.1 sound in
      post_agrees s acts first r a (half_is.Post to tag slot) now after is steps agrees to tag slot k.0 k.1 (apart_of ranks sh shut r to tag slot k.0 x)
      (some_by_shape (sh r slot) (meaning (matrices s) (before acts r (now.done r)) first r slot) (same r slot) x.filled) (unshut to (not_true (shut r to) x.open_lane)) steps.half
  step_by_half (half_is.Take from tag into shape) e steps agrees =
      let k = is_take sh a r from tag into shape e in
      let x = subst (λ b. IsSound ranks sh shut b) k.1 sound in
      take_agrees s acts first r a (half_is.Take from tag into shape) now after is steps agrees from tag k.0 into shape k.1 (apart_of ranks sh shut from r tag k.0 into x) steps.half
  step_by_half (half_is.Work op) e steps agrees =
      let k = is_work sh a r op e in
      let x = subst (λ b. IsSound ranks sh shut b) k sound in
      work_agrees s acts first r a (half_is.Work op) now after is steps agrees op k (all_some (sh r) (meaning (matrices s) (before acts r (now.done r)) first r) (operands_of op) (same r) x.filled) steps.half
  step_by_half (half_is.Shut to) e steps agrees =
      let k = is_shut sh a r to e in
      let x = subst (λ b. IsSound ranks sh shut b) k sound in
      shut_agrees s acts first r a (half_is.Shut to) now after is steps agrees to k (apart_of_shut ranks sh shut r to x) (unshut to (not_true (shut r to) x.open_lane)) steps.half
  step_by_half (half_is.End from) e steps agrees =
      let k = is_end sh a r from e in
      let x = subst (λ b. IsSound ranks sh shut b) k sound in
      end_agrees s acts first r a (half_is.End from) now after is steps agrees from k (apart_of_shut ranks sh shut from r x) steps.half

-- a rank's next half preserves the agreement, in a plan that passes the check
pub step_agrees : (s : Arithmetic) (ranks : ℕ) (acts : List Act) (first : State Sparse) (r : ℕ) (h : Half) (now after : System Sparse) → Passes ranks (images (λ (m : Sparse). m.shape) first) none_shut acts → slice_get (project_from (images (λ (m : Sparse). m.shape) first) acts r) (now.done r) ≡ Some h → Moves s r h now after → Agrees (matrices s) acts first now → Agrees (matrices s) acts first after
step_agrees s ranks acts first r h now after passes next steps agrees =
    let start : State Extent = images (λ (m : Sparse). m.shape) first in
    let it = act_of_half ranks none_shut acts start r (now.done r) h passes next in
    let before_it = before acts r (now.done r) in
    let sound = next_sound ranks none_shut acts start r (now.done r) it.0 passes it.1 in
    let turns = shapes_of_meaning s before_it first in
    step_by_half s ranks acts first r it.0 (meaning shapes before_it start) (lanes_after before_it none_shut) now after it.1 sound
    (λ q n. ap (λ (f : State Extent). f q n) (sym turns))
    (λ t e. unmarked (letters (matrices s) before_it first r t) (letters_unmarked (matrices s) before_it first none_shut r t e))
    h it.2 steps agrees
