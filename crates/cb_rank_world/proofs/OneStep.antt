-- A step of a rank through its ends is a step of the world.
use Rattle.std.proofs.Common.{◌≡◌, ◌≢◌, ℕ, ◌+◌, ◌<◌, Bool, true, false, List, [], ◌∷◌, length, refl, sym, ◌∙◌, ap, subst, arith, inl, inr}
use Rattle.std.specs.Prelude.{Option, Some, None, Ok, IfSome, slice_set}
use Rattle.std.proofs.lemmas.Bool.Decides.{nat_tests}
use Rattle.std.proofs.lemmas.List.{get_or-set_same, set-get_or}
use Rattle.cb_semirings.specs.Arithmetic.{Arithmetic}
use Rattle.cb_matrix.specs.Sparse.{Sparse, Extent}
use Rattle.cb_letters.specs.declared.Letter.{Letter}
use Rattle.cb_letters.specs.declared.Tag.{Tag}
use Rattle.cb_letters.specs.declared.Body.{Body}
use Rattle.cb_letters.specs.declared.Body.TheVariants as body_is
use Rattle.cb_letters.specs.declared.Taken.{Taken}
use Rattle.cb_letters.specs.declared.Taken.TheVariants as taken_is
use Rattle.cb_letters.specs.Letters.{is_close}
use Rattle.cb_letters.specs.Lane.{Lane, answer_at, take_answer}
use Rattle.cb_mailbox.specs.Inbox.{Inbox}
use Rattle.cb_plan.specs.declared.acts.Half.{Half}
use Rattle.cb_plan.specs.declared.acts.Half.TheVariants as half_is
use Rattle.cb_rank.specs.declared.wants.Arrival.TheVariants as arrival_is
use Rattle.cb_rank.specs.declared.wants.Moved.{Moved}
use Rattle.cb_rank.specs.declared.wants.Moved.TheVariants as moved_is
use Rattle.cb_rank.specs.Halves.{HasKind, asks_memory}
use Rattle.cb_rank.specs.Ranks.{RankView, IsAwaited, next_half}
use Rattle.cb_rank.specs.Steps.{Answer, StepPosts, StepTakes, StepWorks, TakesUp, Accepts, moved_by}
use Rattle.cb_rank_world.specs.declared.events.Event.TheVariants as event_is
use Rattle.cb_rank_world.specs.Ends.{EndsView, boxes_after, is_out, standing, has_room, may_be_full, keeps, posts, takes}
use Rattle.cb_rank_world.specs.EndLaws as laws
use Rattle.cb_rank_world.specs.Worlds.{WorldView, IsWorld, no_rank, rank_of, next_of, lane_between, CanDo, CanAct}
use Rattle.cb_rank_world.specs.WorldSteps.{with_rank, DoesIn, StepsBy, IsStarved}
use Rattle.cb_rank_world.proofs.NextHalf.{finds_half}
use Rattle.cb_rank_world.proofs.WorldAfterHalf.{does_keep}

-- what a rank's step comes to: no stray, and the world after it
pub record Came (s : Arithmetic) (w : WorldView) (r : ℕ) (answer : Answer) (after : WorldView) : Type 0 where
  pub moved : Moved
  pub answer_is : answer ≡ Ok moved
  pub steps : StepsBy s r (next_of w r) moved w after
  pub sound : IsWorld s after

-- if the rank and the mailboxes are unchanged, so is the world
same_world : (w : WorldView) (r : ℕ) (x : RankView) (boxes : List (Inbox Sparse)) → x ≡ rank_of w r → boxes ≡ w.boxes → with_rank w r x boxes ≡ w
same_world w r x boxes e f =
    let ranks : slice_set w.ranks r x ≡ w.ranks = ap (λ y. slice_set w.ranks r y) e ∙ set-get_or w.ranks r no_rank in
    ap (λ y. record w { ranks = y; boxes = boxes }) ranks ∙ ap (λ y. record w { boxes = y }) f

not_closed_kind : (shape : Extent) (b : Body Sparse) → HasKind shape b → is_close b ≡ false
not_closed_kind shape (body_is.Sheet m) h = refl
not_closed_kind shape (body_is.Lost o) h = refl
not_closed_kind shape body_is.Close h = absurd h

answer_letter : (closed : Bool) (x : Letter Sparse) (xs : List (Letter Sparse)) → is_close x.body ≡ false → answer_at closed (x ∷ xs) ≡ taken_is.Letter x
answer_letter true x xs e = rw e refl
answer_letter false x xs e = rw e refl

answer_end : (closed : Bool) (x : Letter Sparse) (xs : List (Letter Sparse)) → is_close x.body ≡ true → answer_at closed (x ∷ xs) ≡ taken_is.End
answer_end true x xs e = rw e refl
answer_end false x xs e = rw e refl

answer_of : (l : Lane Sparse) (closed : Bool) (queue : List (Letter Sparse)) → l.closed ≡ closed → l.queue ≡ queue → take_answer l ≡ answer_at closed queue
answer_of l closed queue e f = rw (e, f) refl

module _ (s : Arithmetic) (w : WorldView) (r : ℕ) (sound : IsWorld s w) (inside : r < w.plan.ranks) (x : RankView) (answer : Answer) (q : EndsView Sparse) where
  abbrev own : EndsView Sparse
  own = record { me = r; boxes = w.boxes }

  abbrev after : WorldView
  after = with_rank w r x q.boxes

  -- the step is this one of the world
  came : (half : Option Half) (moved : Moved) → next_of w r ≡ half → answer ≡ Ok moved → StepsBy s r half moved w after → IsWorld s after → Came s w r answer after
  came half moved next is steps then_sound = record { moved = moved; answer_is = is; steps = subst (λ h. StepsBy s r h moved w after) (sym next) steps; sound = then_sound }

  unmoved : (half : Option Half) (moved : Moved) → next_of w r ≡ half → answer ≡ Ok moved → x ≡ rank_of w r → q ≡ own → (after ≡ w → StepsBy s r half moved w after) → Came s w r answer after
  unmoved half moved next is e f steps =
      let same = same_world w r x q.boxes e (ap (λ (y : EndsView Sparse). y.boxes) f) in
      came half moved next is (steps same) (subst (λ y. IsWorld s y) (sym same) sound)

  did_half : (h : Half) → next_of w r ≡ Some h → answer ≡ Ok (moved_by h) → CanDo w r (Some h) → DoesIn s r h w after → Came s w r answer after
  did_half h next is can did =
      came (Some h) (moved_by h) next is (inr (refl, subst (λ o. CanDo w r o) (sym next) can, did)) (does_keep s w after r h sound inside next did)

  waited : (h : Half) → next_of w r ≡ Some h → answer ≡ Ok moved_is.Waiting → ¬ CanDo w r (Some h) → x ≡ rank_of w r → q ≡ own → Came s w r answer after
  waited h next is cannot e f =
      unmoved (Some h) moved_is.Waiting next is e f (λ same. inl (refl, λ can. cannot (subst (λ o. CanDo w r o) next can), same))

  there : (from : ℕ) → from < w.plan.ranks → from ≢ r → is_out own from ≡ false
  there from l ne = let size = sound.sizes.1 in rw size (grind (arith, nat_tests))

  room_of : (to : ℕ) → to < w.plan.ranks → r ≢ to → (lane_between w r to).capacity ≡ w.capacity
  room_of to l ne = (sound.boxes to l).capacity r inside ne

  both : {x y : RankView} {b c : List (Inbox Sparse)} → x ≡ y → b ≡ c → with_rank w r x b ≡ with_rank w r y c
  both e f = rw (e, f) refl

  -- what a take gives if a letter is queued: the letter, or the end of the lane
  took : (from : ℕ) (t : Taken Sparse) → is_out own from ≡ false → takes own from t q → (t ≡ take_answer (lane_between w from r)) × (q.boxes ≡ boxes_after w.boxes from r)
  took from t out h =
      let is : q ≡ record own { boxes = boxes_after w.boxes from r } = h.2 ∙ rw out refl in
      (h.1 ∙ rw out refl, ap (λ (y : EndsView Sparse). y.boxes) is)

  -- a take finds the letter that is awaited, or nothing; the lane hasn't ended
  take_from : (from : ℕ) (tag : Tag) (into : ℕ) (shape : Extent) → next_of w r ≡ Some (half_is.Take from tag into shape) → (queue : List (Letter Sparse)) (closed : Bool) → (lane_between w from r).queue ≡ queue → (lane_between w from r).closed ≡ closed
      → (t : Taken Sparse) → takes own from t q → TakesUp (half_is.Take from tag into shape) from t answer (rank_of w r) x → Came s w r answer after
  take_from from tag into shape next [] closed e g t h up =
      let half : Half = half_is.Take from tag into shape in
      let f = finds_half s w r half sound inside next in
      let out = there from f.0 f.1 in
      let is : t ≡ taken_is.Empty = (took from t out h).0 ∙ answer_of (lane_between w from r) false [] (f.3 e) e in
      let stays = subst (λ t. TakesUp half from t answer (rank_of w r) x) is up in
      let none = ap (λ (xs : List (Letter Sparse)). length xs) e in
      waited half next stays.0 (λ can. absurd (omega arith)) stays.1 (laws.empty own q from (subst (λ t. takes own from t q) is h))
  take_from from tag into shape next (y ∷ ys) closed e g t h up =
      let half : Half = half_is.Take from tag into shape in
      let f = finds_half s w r half sound inside next in
      let out = there from f.0 f.1 in
      let found = f.4 y ys e in
      let is : t ≡ taken_is.Letter y = (took from t out h).0 ∙ answer_of (lane_between w from r) closed (y ∷ ys) g e ∙ answer_letter closed y ys (not_closed_kind shape y.body found.2) in
      let accepts : Accepts half (arrival_is.Letter y) answer (rank_of w r) x = subst (λ t. TakesUp half from t answer (rank_of w r) x) is up in
      let awaited : IsAwaited (Some half) r (arrival_is.Letter y) = (found.0.sender, found.0.addressee, found.1, found.2) in
      let some = ap (λ (xs : List (Letter Sparse)). length xs) e in
      elim accepts [
        | inl u ↦
            did_half half next u.1 (let n = some in omega arith) (y, rw e refl, awaited, both u.2 (took from t out h).1)
        | inr u ↦ absurd (u.0 (subst (λ me. IsAwaited (Some half) me (arrival_is.Letter y)) (sym (sound.ranks r inside).number) awaited))
      ]

  -- the same for an End
  end_from : (from : ℕ) → next_of w r ≡ Some (half_is.End from) → (queue : List (Letter Sparse)) (closed : Bool) → (lane_between w from r).queue ≡ queue → (lane_between w from r).closed ≡ closed
      → (t : Taken Sparse) → takes own from t q → TakesUp (half_is.End from) from t answer (rank_of w r) x → Came s w r answer after
  end_from from next [] closed e g t h up =
      let half : Half = half_is.End from in
      let f = finds_half s w r half sound inside next in
      let out = there from f.0 f.1 in
      let is : t ≡ taken_is.Empty = (took from t out h).0 ∙ answer_of (lane_between w from r) false [] (f.2 e) e in
      let stays = subst (λ t. TakesUp half from t answer (rank_of w r) x) is up in
      let none = ap (λ (xs : List (Letter Sparse)). length xs) e in
      waited half next stays.0 (λ can. absurd (omega arith)) stays.1 (laws.empty own q from (subst (λ t. takes own from t q) is h))
  end_from from next (y ∷ ys) closed e g t h up =
      let half : Half = half_is.End from in
      let f = finds_half s w r half sound inside next in
      let out = there from f.0 f.1 in
      let found = f.3 y ys e in
      let is : t ≡ taken_is.End = (took from t out h).0 ∙ answer_of (lane_between w from r) closed (y ∷ ys) g e ∙ answer_end closed y ys (ap is_close found.2) in
      let accepts : Accepts half (arrival_is.End from) answer (rank_of w r) x = subst (λ t. TakesUp half from t answer (rank_of w r) x) is up in
      let some = ap (λ (xs : List (Letter Sparse)). length xs) e in
      elim accepts [
        | inl u ↦
            did_half half next u.1 (let n = some in omega arith) (y, rw e refl, found.2, both u.2 (took from t out h).1)
        | inr u ↦ absurd (u.0 refl)
      ]

  pub step_by : (half : Option Half) → next_of w r ≡ half → StepPosts standing has_room may_be_full keeps posts half answer (rank_of w r) own x q → StepTakes takes half answer (rank_of w r) own x q → StepWorks s half answer (rank_of w r) own x q → Came s w r answer after
  step_by None next p t k = unmoved None moved_is.Idle next k.0 k.1 k.2 (λ same. (refl, same))
  step_by (Some (half_is.Work op)) next p t k =
      let boxes : q.boxes ≡ w.boxes = ap (λ (y : EndsView Sparse). y.boxes) k.2 in
      did_half (half_is.Work op) next k.1 tt (x, k.0, ap (λ y. with_rank w r x y) boxes)
  step_by (Some (half_is.Post to tag slot)) next (inl held) t k =
      let f = finds_half s w r (half_is.Post to tag slot) sound inside next in
      let c = room_of to f.0 f.1 in
      let full = held.2 in
      waited (half_is.Post to tag slot) next held.0.0 (λ can. absurd (omega arith)) held.0.1 held.1
  step_by (Some (half_is.Post to tag slot)) next (inr sent) t k =
      let f = finds_half s w r (half_is.Post to tag slot) sound inside next in
      let c = room_of to f.0 f.1 in
      let room : has_room own to = subst (λ e. has_room e to) sent.3.0.1 sent.3.0.2 in
      let boxes = ap (λ (y : EndsView Sparse). y.boxes) sent.3.1.2 in
      did_half (half_is.Post to tag slot) next sent.2 (omega arith) (sent.0, x, sent.1, ap (λ y. with_rank w r x y) boxes)
  step_by (Some (half_is.Shut to)) next (inl held) t k =
      let f = finds_half s w r (half_is.Shut to) sound inside next in
      let c = room_of to f.0 f.1 in
      let full = held.2 in
      waited (half_is.Shut to) next held.0.0 (λ can. absurd (omega arith)) held.0.1 held.1
  step_by (Some (half_is.Shut to)) next (inr sent) t k =
      let f = finds_half s w r (half_is.Shut to) sound inside next in
      let c = room_of to f.0 f.1 in
      let room : has_room own to = subst (λ e. has_room e to) sent.2.0.1 sent.2.0.2 in
      let boxes = ap (λ (y : EndsView Sparse). y.boxes) sent.2.1.2 in
      did_half (half_is.Shut to) next sent.1 (omega arith) (both sent.0 boxes)
  step_by (Some (half_is.Take from tag into shape)) next p t k = take_from from tag into shape next (lane_between w from r).queue (lane_between w from r).closed refl refl t.0 t.1 t.2
  step_by (Some (half_is.End from)) next p t k = end_from from next (lane_between w from r).queue (lane_between w from r).closed refl refl t.0 t.1 t.2

-- a step of rank r through its own ends of the world's lanes: no stray comes, it is a step of the world, and it leaves a world
pub step_is : (s : Arithmetic) (w : WorldView) (r : ℕ) (old x : RankView) (answer : Answer) (p q : EndsView Sparse) → IsWorld s w → r < w.plan.ranks → old ≡ rank_of w r → p ≡ record { me = r; boxes = w.boxes }
    → StepPosts standing has_room may_be_full keeps posts (next_half old) answer old p x q → StepTakes takes (next_half old) answer old p x q → StepWorks s (next_half old) answer old p x q → Came s w r answer (with_rank w r x q.boxes)
step_is s w r old x answer p q sound inside e f posted taken worked =
    step_by s w r sound inside x answer q (next_of w r) refl
    (subst (λ a. StepPosts standing has_room may_be_full keeps posts (next_of w r) answer (rank_of w r) a x q) f (subst (λ o. StepPosts standing has_room may_be_full keeps posts (next_half o) answer o p x q) e posted))
    (subst (λ a. StepTakes takes (next_of w r) answer (rank_of w r) a x q) f (subst (λ o. StepTakes takes (next_half o) answer o p x q) e taken))
    (subst (λ a. StepWorks s (next_of w r) answer (rank_of w r) a x q) f (subst (λ o. StepWorks s (next_half o) answer o p x q) e worked))

moved_not_waiting : (h : Half) → moved_by h ≢ moved_is.Waiting
moved_not_waiting (half_is.Work op) e = cc
moved_not_waiting _ e = cc

-- if a starved rank can act and asks for memory, its count of refusals rises by one
starved_by : (s : Arithmetic) (w : WorldView) (r : ℕ) (next : Option Half) (m : Moved) (answer : Answer) (after : WorldView) (n : ℕ) → answer ≡ Ok m → StepsBy s r next m w after → CanAct w r → (rank_of after r).refusals ≡ n
    → IfSome next (λ h. asks_memory (rank_of w r).slots h ≡ true → answer ≢ Ok moved_is.Waiting → n ≡ (rank_of w r).refusals + 1)
    → IfSome next (λ h. asks_memory (rank_of w r).slots h ≡ true → (rank_of after r).refusals ≡ (rank_of w r).refusals + 1)
starved_by s w r None m answer after n is steps can count refused = tt
starved_by s w r (Some h) m answer after n is (inl waits) can count refused = absurd (waits.1 can)
starved_by s w r (Some h) m answer after n is (inr did) can count refused = λ asks.
    let went : answer ≢ Ok moved_is.Waiting = λ e.
    let both : Ok (moved_by h) ≡ Ok moved_is.Waiting = ap Ok (sym did.0) ∙ sym is ∙ e in
    let same : moved_by h ≡ moved_is.Waiting = cc in
    moved_not_waiting h same in
    count ∙ refused asks went

-- a starved rank that can act counts one more refusal, if it asks for memory
pub starved_is : (s : Arithmetic) (w : WorldView) (r : ℕ) (old x : RankView) (answer : Answer) (boxes : List (Inbox Sparse)) (m : Moved) → IsWorld s w → r < w.plan.ranks → old ≡ rank_of w r → answer ≡ Ok m → StepsBy s r (next_of w r) m w (with_rank w r x boxes)
    → IfSome (next_half old) (λ h. asks_memory old.slots h ≡ true → answer ≢ Ok moved_is.Waiting → x.refusals ≡ old.refusals + 1)
    → IsStarved (event_is.Starve r) w (with_rank w r x boxes)
starved_is s w r old x answer boxes m sound inside e is steps refused can =
    let size = sound.sizes.0 in
    let same : rank_of (with_rank w r x boxes) r ≡ x = get_or-set_same w.ranks r x no_rank (omega arith) in
    starved_by s w r (next_of w r) m answer (with_rank w r x boxes) x.refusals is steps can (ap (λ (y : RankView). y.refusals) same)
    (subst (λ o. IfSome (next_half o) (λ h. asks_memory o.slots h ≡ true → answer ≢ Ok moved_is.Waiting → x.refusals ≡ o.refusals + 1)) e refused)
