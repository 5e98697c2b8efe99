-- What is queued on the lanes after a list of calls.
use Rattle.std.proofs.Common.{◌≡◌, ◌≢◌, ℕ, Bool, true, false, if◌then◌else◌, List, [], ◌∷◌, ◌++◌, length, Option, Some, None, drop, refl, sym, ◌∙◌, ap, subst, arith, append_assoc, append-nil}
use Rattle.std.proofs.lemmas.Grind.{common_steps}
use Rattle.std.proofs.lemmas.List.{get_or-set_other, length-set}
use Rattle.cb_letters.specs.declared.Letter.{Letter}
use Rattle.cb_letters.specs.declared.PostRefusal.{PostRefusal}
use Rattle.cb_letters.specs.declared.Body.TheVariants as Body
use Rattle.cb_letters.specs.Letters.{mark_tag}
use Rattle.cb_letters.specs.Lane.{Lane, append, after_take}
use Rattle.cb_letters.specs.Events.{Event, Sent, Got, posts_on, takes_on}
use Rattle.cb_mailbox.specs.declared.calls.Call.{Call}
use Rattle.cb_mailbox.specs.declared.calls.Call.TheVariants.{Post, Take, Close}
use Rattle.cb_mailbox.specs.Inbox.{Inbox, is_stranger, lane_from, with_lane, post_refusal, next_letter}
use Rattle.cb_mailbox.proofs.Inboxes.{lane_at, lane_other, same_or_other}
use Rattle.cb_mailbox.specs.Run.{after, after_post, after_all, post_events, take_events, events_of, events, IsBalanced}

module _ {P : Type 0} where
  -- the letters posted by two lists of events
  pub posts_on-append : (from to : ℕ) (xs ys : List (Event P)) → posts_on from to (xs ++ ys) ≡ posts_on from to xs ++ posts_on from to ys
  posts_on-append from to [] ys = refl
  posts_on-append from to (Sent f t x ∷ xs) ys = grind (arith, common_steps, posts_on-append from to xs ys)
  posts_on-append from to (Got f t x ∷ xs) ys = posts_on-append from to xs ys

  -- the letters taken by two lists of events
  pub takes_on-append : (from to : ℕ) (xs ys : List (Event P)) → takes_on from to (xs ++ ys) ≡ takes_on from to xs ++ takes_on from to ys
  takes_on-append from to [] ys = refl
  takes_on-append from to (Got f t x ∷ xs) ys = grind (arith, common_steps, takes_on-append from to xs ys)
  takes_on-append from to (Sent f t x ∷ xs) ys = takes_on-append from to xs ys

  -- a post that is accepted, or refused
  pub post_balanced : (box : Inbox P) (r : Option PostRefusal) (x : Letter P) → r ≡ post_refusal box x.from → x.to ≡ box.me → IsBalanced box (after_post r box x) (post_events r x)
  post_balanced box (Some why) x e m from inside = append-nil _
  post_balanced box None x e m from inside = grind (arith, common_steps, get_or-set_other, e, m)

  take_queue : (from sender me : ℕ) (queue : List (Letter P)) → queue ++ posts_on from me (take_events sender me queue) ≡ queue
  take_queue from sender me [] = refl
  take_queue from sender me (x ∷ xs) = append-nil _

  -- a take posts nothing
  pub take_posts : (from sender me : ℕ) (queue : List (Letter P)) → posts_on from me (take_events sender me queue) ≡ []
  take_posts from sender me [] = refl
  take_posts from sender me (x ∷ xs) = refl

  take_same : (from me : ℕ) (queue : List (Letter P)) → takes_on from me (take_events from me queue) ++ drop 1 queue ≡ queue
  take_same from me [] = refl
  take_same from me (x ∷ xs) = grind (arith, common_steps)

  -- a take takes nothing from another sender
  pub take_other : (from sender me : ℕ) (queue : List (Letter P)) → from ≢ sender → takes_on from me (take_events sender me queue) ≡ []
  take_other from sender me [] apart = refl
  take_other from sender me (x ∷ xs) apart = grind (arith, common_steps)

  -- a take from a sender
  pub take_balanced : (box : Inbox P) (sender : ℕ) → is_stranger box sender ≡ false
      → IsBalanced box (with_lane box sender (after_take (lane_from box sender))) (take_events sender box.me (lane_from box sender).queue)
  take_balanced box sender known from inside =
      let q = (lane_from box sender).queue in
      let Q : ℕ → Type 0 = λ (m : ℕ). (lane_from box m).queue ++ posts_on m box.me (take_events sender box.me q) ≡ takes_on m box.me (take_events sender box.me q) ++ (lane_from (with_lane box sender (after_take (lane_from box sender))) m).queue in
      let no_posts : posts_on from box.me (take_events sender box.me q) ≡ [] = take_posts from sender box.me q in
      let other : from ≢ sender → Q from = λ apart.
      rw (take_other from sender box.me q apart, lane_other box sender from (after_take (lane_from box sender)) apart) (rw no_posts (append-nil _)) in
      same_or_other from sender (Q from)
      (λ e. subst Q (sym e) (take_queue sender sender box.me q ∙ sym (ap (λ (l : Lane P). takes_on sender box.me (take_events sender box.me q) ++ l.queue) (lane_at box sender (after_take (lane_from box sender)) known) ∙ take_same sender box.me q)))
      other

  take_call : (box : Inbox P) (sender : ℕ) (b : Bool) → is_stranger box sender ≡ b
      → IsBalanced box (if b then box else with_lane box sender (after_take (lane_from box sender))) (if b then [] else take_events sender box.me (lane_from box sender).queue)
  take_call box sender true e from inside = append-nil _
  take_call box sender false e from inside = take_balanced box sender e from inside

  -- one call
  pub call_balanced : (box : Inbox P) (c : Call P) → IsBalanced box (after box c) (events_of box c)
  call_balanced box (Post from tag body) = post_balanced box (post_refusal box from) (next_letter box from tag body) refl refl
  call_balanced box (Close from) = post_balanced box (post_refusal box from) (next_letter box from mark_tag Body.Close) refl refl
  call_balanced box (Take from) = take_call box from (is_stranger box from) refl

  -- a call changes neither whose mailbox it is nor how many ranks there are
  after_post_keeps : (box : Inbox P) (r : Option PostRefusal) (x : Letter P) → ((after_post r box x).me ≡ box.me) × (length (after_post r box x).lanes ≡ length box.lanes)
  after_post_keeps box (Some why) x = (refl, refl)
  after_post_keeps box None x = (refl, length-set box.lanes x.from (append (lane_from box x.from) x))

  take_keeps : (box : Inbox P) (sender : ℕ) (b : Bool)
      → ((if b then box else with_lane box sender (after_take (lane_from box sender))).me ≡ box.me) × (length (if b then box else with_lane box sender (after_take (lane_from box sender))).lanes ≡ length box.lanes)
  take_keeps box sender true = (refl, refl)
  take_keeps box sender false = (refl, length-set box.lanes sender (after_take (lane_from box sender)))

  -- a call changes neither the rank nor the number of lanes
  pub after_keeps : (box : Inbox P) (c : Call P) → ((after box c).me ≡ box.me) × (length (after box c).lanes ≡ length box.lanes)
  after_keeps box (Post from tag body) = after_post_keeps box (post_refusal box from) (next_letter box from tag body)
  after_keeps box (Close from) = after_post_keeps box (post_refusal box from) (next_letter box from mark_tag Body.Close)
  after_keeps box (Take from) = take_keeps box from (is_stranger box from)

  -- so a sender that had a lane has one after it
  pub still_inside : (box : Inbox P) (c : Call P) (from : ℕ) → is_stranger box from ≡ false → is_stranger (after box c) from ≡ false
  still_inside box c from inside = let k = after_keeps box c in rw (k.0, k.1) inside

  joined : (q a b p q1 t q2 : List (Letter P)) → q ++ a ≡ t ++ q1 → q1 ++ b ≡ p ++ q2 → q ++ (a ++ b) ≡ (t ++ p) ++ q2
  joined q a b p q1 t q2 e f = sym (append_assoc q a b) ∙ ap (λ (xs : List (Letter P)). xs ++ b) e ∙ append_assoc t q1 b ∙ ap (λ (xs : List (Letter P)). t ++ xs) f ∙ sym (append_assoc t p q2)

  -- a list of calls: on each lane, what was queued and then accepted is what was taken and is queued
  pub all_balanced : (box : Inbox P) (cs : List (Call P)) → IsBalanced box (after_all box cs) (events box cs)
  all_balanced box [] from inside = append-nil _
  all_balanced box (c ∷ cs) from inside =
      let rest = rw (after_keeps box c).0 at (all_balanced (after box c) cs from (still_inside box c from inside)) in
      rw (posts_on-append, takes_on-append)
      (joined (lane_from box from).queue (posts_on from box.me (events_of box c)) (posts_on from box.me (events (after box c) cs)) (takes_on from box.me (events (after box c) cs)) (lane_from (after box c) from).queue (takes_on from box.me (events_of box c)) (lane_from (after_all (after box c) cs) from).queue
      (call_balanced box c from inside) rest)
