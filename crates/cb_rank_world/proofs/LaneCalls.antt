-- The calls that the ranks of a world make of its mailboxes, and what becomes of the letters.
use Rattle.std.proofs.Common.{◌≡◌, ◌≢◌, ℕ, ◌<◌, true, false, List, [], ◌∷◌, ◌++◌, length, refl, sym, ◌∙◌, ap, subst, arith, inl, inr}
use Rattle.std.specs.Prelude.{Option, Some, None, ◌==◌, nat_lt, map, filter, slice_set}
use Rattle.std.proofs.lemmas.Bool.Decides.{nat_tests}
use Rattle.std.proofs.lemmas.List.{get_or-set_same, get_or-set_other, map-append}
use Rattle.std.proofs.lemmas.List.Elements.{filter-append}
use Rattle.cb_semirings.specs.Arithmetic.{Arithmetic}
use Rattle.cb_matrix.specs.Sparse.{Sparse}
use Rattle.cb_letters.specs.declared.Body.{Body}
use Rattle.cb_letters.specs.declared.Body.TheVariants as body_is
use Rattle.cb_letters.specs.declared.Tag.{Tag}
use Rattle.cb_letters.specs.Letters.{mark_tag}
use Rattle.cb_letters.specs.Lane.{Lane, IsLane, HasRoom, posted, refusal}
use Rattle.cb_letters.specs.Standing.{Standing, standing_refusal, last_number}
use Rattle.cb_letters.proofs.Standings.{not_closed}
use Rattle.cb_mailbox.specs.declared.calls.Call.{Call}
use Rattle.cb_mailbox.specs.declared.calls.Call.TheVariants as call_is
use Rattle.cb_mailbox.specs.declared.calls.Reply.{Reply}
use Rattle.cb_mailbox.specs.Inbox.{Inbox, is_stranger, post_refusal, HasLanes}
use Rattle.cb_mailbox.specs.Run.{answer, after, after_all, answers_to}
use Rattle.cb_mailbox.proofs.Exchanges.{taken_once, for_addressee, in_posting_order, nothing_after_close, given_out}
use Rattle.cb_plan.specs.declared.acts.Half.{Half}
use Rattle.cb_plan.specs.declared.acts.Half.TheVariants as half_is
use Rattle.cb_rank.specs.declared.wants.Moved.{Moved}
use Rattle.cb_rank.specs.declared.wants.Moved.TheVariants as moved_is
use Rattle.cb_rank.specs.Steps.{moved_by}
use Rattle.cb_plan.proofs.Effects.{split}
use Rattle.cb_rank.proofs.Ports.{opens_post, opens_shut}
use Rattle.cb_rank_world.specs.declared.events.Event.{Event}
use Rattle.cb_rank_world.specs.Ends.{box_in, boxes_with, boxes_after, standing}
use Rattle.cb_rank_world.specs.Worlds.{WorldView, IsWorld, rank_of, next_of, lane_between, CanDo}
use Rattle.cb_rank_world.specs.WorldSteps.{letter_to, DoesIn, StepsBy, RunsBy, rank_in}
use Rattle.cb_rank_world.specs.LaneCalls.{Exchange, calls_to, answers_from, Calls, IsMade, AreCallsOf, AreTakenOnce, AreForAddressee, AreInPostingOrder, NothingAcceptedAfterClose, HasGivenOutAll}
use Rattle.cb_rank_world.proofs.NextHalf.{finds_half}
use Rattle.cb_rank_world.proofs.OwnEnds.{ports_of}
use Rattle.cb_rank_world.proofs.NoDeadlock.{no_next}
use Rattle.cb_rank_world.proofs.Changes.{steps_stay}
use Rattle.cb_rank_world.proofs.WorldAfterHalf.{does_keep}

known_of : (box : Inbox Sparse) (from : ℕ) → is_stranger box from ≡ false → (from < length box.lanes) × (from ≢ box.me)
known_of box from e = (grind (arith, nat_tests), grind (arith, nat_tests))

-- the mailbox of each rank of a world has lanes
boxes_sound : (s : Arithmetic) (w : WorldView) → IsWorld s w → (t : ℕ) → t < w.plan.ranks → HasLanes (box_in w.boxes t)
boxes_sound s w sound t below from known =
    let has = sound.boxes t below in
    let there = known_of (box_in w.boxes t) from known in
    let low = there.0 in
    let lanes = has.lanes in
    subst (λ n. IsLane from n (lane_between w from t)) (sym has.number) (has.sound from (omega arith) (λ e. there.1 (e ∙ sym has.number)))

-- a list of calls after another
after_all-join : (box : Inbox Sparse) (xs ys : List (Call Sparse)) → after_all box (xs ++ ys) ≡ after_all (after_all box xs) ys
after_all-join box [] ys = refl
after_all-join box (x ∷ xs) ys = after_all-join (after box x) xs ys

answers_to-join : (box : Inbox Sparse) (xs ys : List (Call Sparse)) → answers_to box (xs ++ ys) ≡ answers_to box xs ++ answers_to (after_all box xs) ys
answers_to-join box [] ys = refl
answers_to-join box (x ∷ xs) ys = ap (λ (rest : List (Reply Sparse)). answer box x ∷ rest) (answers_to-join (after box x) xs ys)

calls_to-append : (t : ℕ) (xs ys : List Exchange) → calls_to t (xs ++ ys) ≡ calls_to t xs ++ calls_to t ys
calls_to-append t xs ys =
    let mine = λ (x : Exchange). x.to == t in
    ap (map (λ (x : Exchange). x.call)) (filter-append mine xs ys) ∙ map-append (λ (x : Exchange). x.call) (filter mine xs) (filter mine ys)

answers_from-append : (t : ℕ) (xs ys : List Exchange) → answers_from t (xs ++ ys) ≡ answers_from t xs ++ answers_from t ys
answers_from-append t xs ys =
    let mine = λ (x : Exchange). x.to == t in
    ap (map (λ (x : Exchange). x.answered)) (filter-append mine xs ys) ∙ map-append (λ (x : Exchange). x.answered) (filter mine xs) (filter mine ys)

-- what the calls of rank t's mailbox do to it
record Goes (old new : List (Inbox Sparse)) (xs : List Exchange) (t : ℕ) : Type 0 where
  after_is : box_in new t ≡ after_all (box_in old t) (calls_to t xs)
  answers : answers_from t xs ≡ answers_to (box_in old t) (calls_to t xs)

goes_none : (old new : List (Inbox Sparse)) (xs : List Exchange) (t : ℕ) → new ≡ old → xs ≡ [] → Goes old new xs t
goes_none old new xs t e none = rw (e, none) (record { after_is = refl; answers = refl })

goes_one : (old new : List (Inbox Sparse)) (x : Exchange) (t : ℕ) → t < length old → IsMade x old new → Goes old new (x ∷ []) t
goes_one old new x t below made =
    split (x.to == t)
    (λ u.
    let same : x.to ≡ t = grind (arith, nat_tests) in
    let here : box_in new t ≡ after (box_in old t) x.call = ap (λ bs. box_in bs t) (made.1 ∙ ap (λ n. slice_set old n (after (box_in old n) x.call)) same) ∙ get_or-set_same old t (after (box_in old t) x.call) (record { me = t; lanes = [] }) below in
    record { after_is = rw u here; answers = rw u (ap (λ a. a ∷ []) (made.0 ∙ ap (λ n. answer (box_in old n) x.call) same)) })
    (λ u.
    let other : t ≢ x.to = grind (arith, nat_tests) in
    let there : box_in new t ≡ box_in old t = ap (λ bs. box_in bs t) made.1 ∙ get_or-set_other old x.to t (after (box_in old x.to) x.call) (record { me = t; lanes = [] }) other in
    record { after_is = rw u there; answers = rw u refl })

goes_both : (old mid new : List (Inbox Sparse)) (xs ys : List Exchange) (t : ℕ) → Goes old mid xs t → Goes mid new ys t → Goes old new (xs ++ ys) t
goes_both old mid new xs ys t a b = record {
  after_is = b.after_is ∙ ap (λ box. after_all box (calls_to t ys)) a.after_is ∙ sym (ap (after_all (box_in old t)) (calls_to-append t xs ys) ∙ after_all-join (box_in old t) (calls_to t xs) (calls_to t ys));
  answers =
      answers_from-append t xs ys
      ∙ ap (λ zs. zs ++ answers_from t ys) a.answers
      ∙ ap (λ zs. answers_to (box_in old t) (calls_to t xs) ++ zs) (b.answers ∙ ap (λ box. answers_to box (calls_to t ys)) a.after_is)
      ∙ sym (ap (answers_to (box_in old t)) (calls_to-append t xs ys) ∙ answers_to-join (box_in old t) (calls_to t xs) (calls_to t ys));
}

-- a step with this result calls no mailbox
abbrev IsStill : Moved → Type 0
IsStill moved_is.Worked = Unit {0}
IsStill moved_is.Waiting = Unit {0}
IsStill moved_is.Idle = Unit {0}
IsStill moved = ⊥

still : (s : Arithmetic) (r : ℕ) (half : Option Half) (moved : Moved) (w new : WorldView) → StepsBy s r half moved w new → IsStill moved → new.boxes ≡ w.boxes
still s r None moved w new steps q = ap (λ (y : WorldView). y.boxes) steps.1
still s r (Some h) moved w new (inl waits) q = ap (λ (y : WorldView). y.boxes) waits.2
still s r (Some (half_is.Work op)) moved w new (inr did) q = ap (λ (y : WorldView). y.boxes) did.2.2
still s r _ moved w new (inr did) q = absurd (subst IsStill did.0 q)

step_goes : (s : Arithmetic) (r : ℕ) (half : Option Half) (moved : Moved) (xs : List Exchange) (w new : WorldView) (t : ℕ) → StepsBy s r half moved w new → Calls r half moved xs w.boxes new.boxes → t < length w.boxes → Goes w.boxes new.boxes xs t
step_goes s r half moved_is.Worked xs w new t steps calls below = goes_none w.boxes new.boxes xs t (still s r half moved_is.Worked w new steps tt) calls
step_goes s r half moved_is.Waiting xs w new t steps calls below = goes_none w.boxes new.boxes xs t (still s r half moved_is.Waiting w new steps tt) calls
step_goes s r half moved_is.Idle xs w new t steps calls below = goes_none w.boxes new.boxes xs t (still s r half moved_is.Idle w new steps tt) calls
step_goes s r half moved_is.Posted xs w new t steps calls below = subst (λ ys. Goes w.boxes new.boxes ys t) (sym calls.1) (goes_one w.boxes new.boxes calls.0 t below calls.3)
step_goes s r half moved_is.Took xs w new t steps calls below = subst (λ ys. Goes w.boxes new.boxes ys t) (sym calls.1) (goes_one w.boxes new.boxes calls.0 t below calls.3)
step_goes s r half moved_is.Closed xs w new t steps calls below = subst (λ ys. Goes w.boxes new.boxes ys t) (sym calls.1) (goes_one w.boxes new.boxes calls.0 t below calls.3)
step_goes s r half moved_is.Drained xs w new t steps calls below = subst (λ ys. Goes w.boxes new.boxes ys t) (sym calls.1) (goes_one w.boxes new.boxes calls.0 t below calls.3)

-- a run leaves each mailbox as the calls of that mailbox do
run_goes : (s : Arithmetic) (es : List Event) (xs : List Exchange) (w new : WorldView) (t : ℕ) → AreCallsOf s es xs w new → t < length w.boxes → Goes w.boxes new.boxes xs t
run_goes s [] xs w new t run below = goes_none w.boxes new.boxes xs t (ap (λ (y : WorldView). y.boxes) run.1) run.0
run_goes s (e ∷ es) xs w new t (moved, mid, first, rest, is, steps, calls, more) below =
    let stay = steps_stay s w mid (rank_in e) (next_of w (rank_in e)) moved steps.half in
    let size = stay.boxes in
    let one = step_goes s (rank_in e) (next_of w (rank_in e)) moved first w mid t steps.half calls below in
    subst (λ ys. Goes w.boxes new.boxes ys t) (sym is) (goes_both w.boxes mid.boxes new.boxes first rest t one (run_goes s es rest mid new t more (omega arith)))

module _ (s : Arithmetic) (es : List Event) (xs : List Exchange) (w new : WorldView) (sound : IsWorld s w) (run : AreCallsOf s es xs w new) where
  box_goes : (t : ℕ) → t < w.plan.ranks → Goes w.boxes new.boxes xs t
  box_goes t below = let size = sound.sizes.1 in run_goes s es xs w new t run (omega arith)

  pub all_taken_once : AreTakenOnce w new xs
  all_taken_once t below =
      let g = box_goes t below in
      rw (g.after_is, g.answers) (taken_once (box_in w.boxes t) (calls_to t xs) (boxes_sound s w sound t below))

  pub all_for_addressee : AreForAddressee w xs
  all_for_addressee t below =
      let g = box_goes t below in
      ((sound.boxes t below).number, rw g.answers (for_addressee (box_in w.boxes t) (calls_to t xs) (boxes_sound s w sound t below)))

  pub all_in_posting_order : AreInPostingOrder w new xs
  all_in_posting_order t below =
      let g = box_goes t below in
      rw (g.after_is, g.answers) (in_posting_order (box_in w.boxes t) (calls_to t xs) (boxes_sound s w sound t below))

  pub none_after_close : NothingAcceptedAfterClose w xs
  none_after_close t below =
      let g = box_goes t below in
      rw g.answers (nothing_after_close (box_in w.boxes t) (calls_to t xs) (boxes_sound s w sound t below))

  pub all_given_out : HasGivenOutAll w new xs
  all_given_out t below =
      let g = box_goes t below in
      rw (g.after_is, g.answers) (given_out (box_in w.boxes t) (calls_to t xs) (boxes_sound s w sound t below))

-- a lane with room refuses no post if nothing else does
granted_by : (l : Lane Sparse) (k : Standing) → k.is_stranger ≡ false → k.is_closed ≡ l.closed → k.posted ≡ posted l → standing_refusal k ≡ None → HasRoom l → refusal l ≡ None
granted_by l k known same counted none room =
    let unshut : l.closed ≡ false = sym same ∙ not_closed k none in
    split (posted l == last_number)
    (λ u. absurd (grind (arith, nat_tests)))
    (λ u. let low : nat_lt (length l.queue) l.capacity ≡ true = grind (arith, nat_tests) in rw (unshut, u, low) refl)

module _ (s : Arithmetic) (w : WorldView) (r to : ℕ) (sound : IsWorld s w) (inside : r < w.plan.ranks) (there : to < w.plan.ranks) (apart : r ≢ to) where
  -- a rank is no stranger in the mailbox of another
  no_stranger : (f t : ℕ) → f < w.plan.ranks → t < w.plan.ranks → f ≢ t → is_stranger (box_in w.boxes t) f ≡ false
  no_stranger f t i j ne = let has = sound.boxes t j in rw (has.number, has.lanes) (grind (arith, nat_tests))

  -- if nothing refuses a post, the mailbox of the addressee accepts the letter
  posts_made : (tag : Tag) (body : Body Sparse) → standing_refusal (standing (record { me = r; boxes = w.boxes }) to) ≡ None → (standing (record { me = r; boxes = w.boxes }) to).is_stranger ≡ false → length (lane_between w r to).queue < w.capacity
      → boxes_with w.boxes (letter_to w r to tag body) ≡ slice_set w.boxes to (after (box_in w.boxes to) (call_is.Post r tag body))
  posts_made tag body none known room =
      let has = sound.boxes to there in
      let places = has.capacity r inside apart in
      let granted : post_refusal (box_in w.boxes to) r ≡ None = rw (no_stranger r to inside there apart) (granted_by (lane_between w r to) (standing (record { me = r; boxes = w.boxes }) to) known refl refl none (omega arith)) in
      rw (granted, has.number) refl

  closes_made : standing_refusal (standing (record { me = r; boxes = w.boxes }) to) ≡ None → (standing (record { me = r; boxes = w.boxes }) to).is_stranger ≡ false → length (lane_between w r to).queue < w.capacity
      → boxes_with w.boxes (letter_to w r to mark_tag body_is.Close) ≡ slice_set w.boxes to (after (box_in w.boxes to) (call_is.Close r))
  closes_made none known room =
      let has = sound.boxes to there in
      let places = has.capacity r inside apart in
      let granted : post_refusal (box_in w.boxes to) r ≡ None = rw (no_stranger r to inside there apart) (granted_by (lane_between w r to) (standing (record { me = r; boxes = w.boxes }) to) known refl refl none (omega arith)) in
      rw (granted, has.number) refl

  takes_made : boxes_after w.boxes to r ≡ slice_set w.boxes r (after (box_in w.boxes r) (call_is.Take to))
  takes_made = let known = no_stranger to r there inside (λ e. apart (sym e)) in rw known refl

-- the call that a rank makes for its half, if any
half_calls : (s : Arithmetic) (w new : WorldView) (r : ℕ) (h : Half) → IsWorld s w → r < w.plan.ranks → next_of w r ≡ Some h → CanDo w r (Some h) → DoesIn s r h w new → (xs : List Exchange) × Calls r (Some h) (moved_by h) xs w.boxes new.boxes
half_calls s w new r (half_is.Work op) sound inside next can did = ([], refl)
half_calls s w new r (half_is.Post to tag slot) sound inside next can did =
    let f = finds_half s w r (half_is.Post to tag slot) sound inside next in
    let open_to = opens_post (rank_of w r) to tag slot (standing (record { me = r; boxes = w.boxes })) (sound.ranks r inside).sound next (ports_of s w r sound inside) in
    let call : Call Sparse = call_is.Post r tag did.0 in
    let x : Exchange = record { to = to; call = call; answered = answer (box_in w.boxes to) call } in
    (x ∷ [], (x, refl, (refl, (did.0, refl)), (refl, ap (λ (y : WorldView). y.boxes) did.3 ∙ posts_made s w r to sound inside f.0 f.1 tag did.0 open_to.none open_to.lane can)))
half_calls s w new r (half_is.Shut to) sound inside next can did =
    let f = finds_half s w r (half_is.Shut to) sound inside next in
    let open_to = opens_shut (rank_of w r) to (standing (record { me = r; boxes = w.boxes })) (sound.ranks r inside).sound next (ports_of s w r sound inside) in
    let call : Call Sparse = call_is.Close r in
    let x : Exchange = record { to = to; call = call; answered = answer (box_in w.boxes to) call } in
    (x ∷ [], (x, refl, (refl, refl), (refl, ap (λ (y : WorldView). y.boxes) did ∙ closes_made s w r to sound inside f.0 f.1 open_to.none open_to.lane can)))
half_calls s w new r (half_is.Take from tag into shape) sound inside next can did =
    let f = finds_half s w r (half_is.Take from tag into shape) sound inside next in
    let call : Call Sparse = call_is.Take from in
    let x : Exchange = record { to = r; call = call; answered = answer (box_in w.boxes r) call } in
    (x ∷ [], (x, refl, (refl, refl), (refl, ap (λ (y : WorldView). y.boxes) did.3 ∙ takes_made s w r from sound inside f.0 (λ e. f.1 (sym e)))))
half_calls s w new r (half_is.End from) sound inside next can did =
    let f = finds_half s w r (half_is.End from) sound inside next in
    let call : Call Sparse = call_is.Take from in
    let x : Exchange = record { to = r; call = call; answered = answer (box_in w.boxes r) call } in
    (x ∷ [], (x, refl, (refl, refl), (refl, ap (λ (y : WorldView). y.boxes) did.3 ∙ takes_made s w r from sound inside f.0 (λ e. f.1 (sym e)))))

-- the calls of a step, and that it leaves a world
step_calls : (s : Arithmetic) (w new : WorldView) (r : ℕ) (half : Option Half) (moved : Moved) → IsWorld s w → next_of w r ≡ half → StepsBy s r half moved w new → ((xs : List Exchange) × Calls r half moved xs w.boxes new.boxes) × IsWorld s new
step_calls s w new r None moved sound next steps = (([], subst (λ m. Calls r None m [] w.boxes new.boxes) (sym steps.0) refl), subst (IsWorld s) (sym steps.1) sound)
step_calls s w new r (Some h) moved sound next (inl waits) = (([], subst (λ m. Calls r (Some h) m [] w.boxes new.boxes) (sym waits.0) refl), subst (IsWorld s) (sym waits.2) sound)
step_calls s w new r (Some h) moved sound next (inr did) =
    split (nat_lt r (length w.ranks))
    (λ t.
    let there : r < length w.ranks = grind (arith, nat_tests) in
    let size = sound.sizes.0 in
    let inside : r < w.plan.ranks = omega arith in
    let made = half_calls s w new r h sound inside next (subst (CanDo w r) next did.1) did.2 in
    ((made.0, subst (λ m. Calls r (Some h) m made.0 w.boxes new.boxes) (sym did.0) made.1), does_keep s w new r h sound inside next did.2))
    (λ f. let none = sym next ∙ no_next w r (grind (arith, nat_tests)) in cc)

-- every run has its list of calls
pub run_calls : (s : Arithmetic) (es : List Event) (w new : WorldView) → IsWorld s w → RunsBy s es w new → (xs : List Exchange) × AreCallsOf s es xs w new
run_calls s [] w new sound runs = ([], (refl, runs))
run_calls s (e ∷ es) w new sound (moved, mid, steps, more) =
    let one = step_calls s w mid (rank_in e) (next_of w (rank_in e)) moved sound refl steps.half in
    let rest = run_calls s es mid new one.1 more in
    (one.0.0 ++ rest.0, (moved, mid, one.0.0, rest.0, refl, steps, one.0.1, rest.1))
