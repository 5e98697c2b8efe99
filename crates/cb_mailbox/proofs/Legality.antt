-- The events of a list of calls on a new mailbox are legal.
use Rattle.std.proofs.Common.{◌≡◌, ◌≢◌, ℕ, suc, ◌+◌, Bool, true, false, ◌||◌, if◌then◌else◌, List, [], ◌∷◌, ◌++◌, length, slice_get, Option, Some, None, min, All, refl, sym, ◌∙◌, ap, subst, arith, append_assoc, append-nil, length-append}
use Rattle.std.proofs.lemmas.Grind.{common_steps}
use Rattle.std.proofs.lemmas.List.{length-set}
use Rattle.cb_letters.specs.declared.Letter.{Letter}
use Rattle.cb_letters.specs.declared.PostRefusal.{PostRefusal}
use Rattle.cb_letters.specs.declared.Body.TheVariants as Body
use Rattle.cb_letters.specs.Letters.{is_close, mark_tag}
use Rattle.cb_letters.specs.Lane.{Lane, append, after_take, posted}
use Rattle.cb_letters.specs.Posted.{ends_closed}
use Rattle.cb_letters.proofs.Marks.{ends_closed-append}
use Rattle.cb_letters.specs.Events.{Event, Sent, Got, posts_on, takes_on, MayFollow, AreLegalAfter, AreLegal}
use Rattle.cb_mailbox.specs.declared.calls.Call.{Call}
use Rattle.cb_mailbox.specs.declared.calls.Call.TheVariants.{Post, Take, Close}
use Rattle.cb_mailbox.specs.Inbox.{Inbox, is_stranger, lane_from, with_lane, post_refusal, next_letter}
use Rattle.cb_mailbox.specs.Run.{after, after_post, post_events, take_events, events_of, events, IsPostable, IsBalanced, IsNew}
use Rattle.cb_mailbox.proofs.Inboxes.{lane_at, lane_other, same_or_other}
use Rattle.cb_mailbox.proofs.Balance.{posts_on-append, takes_on-append, post_balanced, take_balanced, take_other, take_posts}

false_true : false ≡ true → ⊥
false_true e = cc

or_false : (a b : Bool) → a ≡ false → (a || b) ≡ b
or_false true b e = absurd (false_true (sym e))
or_false false b e = refl

module _ {P : Type 0} where
  -- the lanes are what these events make of new lanes
  pub record Agrees (past : List (Event P)) (box : Inbox P) : Type 0 where
    pub balance : (from : ℕ) → is_stranger box from ≡ false → posts_on from box.me past ≡ takes_on from box.me past ++ (lane_from box from).queue
    pub count : (from : ℕ) → is_stranger box from ≡ false → (lane_from box from).taken ≡ length (takes_on from box.me past)
    pub closed : (from : ℕ) → is_stranger box from ≡ false → (lane_from box from).closed ≡ ends_closed (posts_on from box.me past)

  -- if no post is refused, the sender's lane is open
  accepted : (box : Inbox P) (from : ℕ) → None ≡ post_refusal box from → (is_stranger box from ≡ false) × ((lane_from box from).closed ≡ false)
  accepted box from e = accepted_by (is_stranger box from) (lane_from box from).closed refl refl
    where
      accepted_by : (b closed : Bool) → is_stranger box from ≡ b → (lane_from box from).closed ≡ closed → (is_stranger box from ≡ false) × ((lane_from box from).closed ≡ false)
      accepted_by true closed f h = absurd (grind (arith, common_steps, e, f))
      accepted_by false true f h = absurd (grind (arith, common_steps, e, f, h))
      accepted_by false false f h = (f, h)

  -- a letter with the next number of an open lane may follow
  pub post_may_follow : (past : List (Event P)) (box : Inbox P) (x : Letter P) → Agrees past box → None ≡ post_refusal box x.from → x.to ≡ box.me → x.number ≡ posted (lane_from box x.from)
      → (is_close x.body ≡ true → x.tag.0 ≡ 0) → MayFollow past (Sent x.from x.to x)
  post_may_follow past box x h e m n tag =
      let ok = accepted box x.from e in
      let size = simp length-append at (ap length (h.balance x.from ok.0)) in
      let counted = h.count x.from ok.0 in
      (refl, refl, rw m (omega arith), rw m (sym (h.closed x.from ok.0) ∙ ok.1), tag)

  -- the oldest queued letter may follow as the next one taken
  pub take_may_follow : (past : List (Event P)) (box : Inbox P) (from : ℕ) (x : Letter P) (xs : List (Letter P)) → Agrees past box → is_stranger box from ≡ false → (lane_from box from).queue ≡ x ∷ xs
      → MayFollow past (Got from box.me x)
  take_may_follow past box from x xs h inside q =
      rw (h.balance from inside, q) (next_is (takes_on from box.me past) x xs)
    where
      next_is : (ys : List (Letter P)) (x : Letter P) (xs : List (Letter P)) → slice_get (ys ++ x ∷ xs) (length ys) ≡ Some x
      next_is [] x xs = refl
      next_is (y ∷ ys) x xs = next_is ys x xs

  known_before : (box : Inbox P) (from k : ℕ) (l : Lane P) → is_stranger (with_lane box from l) k ≡ false → is_stranger box k ≡ false
  known_before box from k l inside = rw length-set at inside

  balance_after : (past es : List (Event P)) (box new : Inbox P) (from : ℕ) → Agrees past box → IsBalanced box new es → is_stranger box from ≡ false
      → posts_on from box.me (past ++ es) ≡ takes_on from box.me (past ++ es) ++ (lane_from new from).queue
  balance_after past es box new from h step inside =
      let t = takes_on from box.me past in
      rw (posts_on-append, takes_on-append)
      (ap (λ (xs : List (Letter P)). xs ++ posts_on from box.me es) (h.balance from inside)
      ∙ append_assoc t (lane_from box from).queue (posts_on from box.me es)
      ∙ ap (λ (xs : List (Letter P)). t ++ xs) (step from inside)
      ∙ sym (append_assoc t (takes_on from box.me es) (lane_from new from).queue))

  taken_stays : (box : Inbox P) (x : Letter P) (from : ℕ) → is_stranger box x.from ≡ false
      → (lane_from (with_lane box x.from (append (lane_from box x.from) x)) from).taken ≡ (lane_from box from).taken
  taken_stays box x from known =
      let Q : ℕ → Type 0 = λ (m : ℕ). (lane_from (with_lane box x.from (append (lane_from box x.from) x)) m).taken ≡ (lane_from box m).taken in
      same_or_other from x.from (Q from)
      (λ e. subst Q (sym e) (ap (λ (l : Lane P). l.taken) (lane_at box x.from (append (lane_from box x.from) x) known)))
      (λ apart. ap (λ (l : Lane P). l.taken) (lane_other box x.from from (append (lane_from box x.from) x) apart))

  sent_here : (me : ℕ) (x : Letter P) → x.to ≡ me → posts_on x.from me (Sent x.from x.to x ∷ []) ≡ x ∷ []
  sent_here me x m = grind (arith, common_steps, m)

  sent_elsewhere : (from me : ℕ) (x : Letter P) → from ≢ x.from → posts_on from me (Sent x.from x.to x ∷ []) ≡ []
  sent_elsewhere from me x apart = grind (arith, common_steps)

  post_agrees : (past : List (Event P)) (box : Inbox P) (x : Letter P) → Agrees past box → None ≡ post_refusal box x.from → x.to ≡ box.me
      → Agrees (past ++ Sent x.from x.to x ∷ []) (with_lane box x.from (append (lane_from box x.from) x))
  post_agrees past box x h e m =
      let ok = accepted box x.from e in
      let l = append (lane_from box x.from) x in
      let es = Sent x.from x.to x ∷ [] in
      let new = with_lane box x.from l in
      record {
        balance = (λ from inside. balance_after past es box new from h (post_balanced box None x e m) (known_before box x.from from l inside));
        count = (λ from inside.
            taken_stays box x from ok.0 ∙ h.count from (known_before box x.from from l inside)
            ∙ rw takes_on-append (ap length (sym (append-nil (takes_on from box.me past)))));
        closed = (λ from inside.
            let known = known_before box x.from from l inside in
            let Q : ℕ → Type 0 = λ (k : ℕ). (lane_from new k).closed ≡ ends_closed (posts_on k box.me (past ++ es)) in
            same_or_other from x.from (Q from)
            (λ same. subst Q (sym same)
            (ap (λ (l : Lane P). l.closed) (lane_at box x.from l ok.0) ∙ or_false (lane_from box x.from).closed (is_close x.body) ok.1
            ∙ rw (posts_on-append, sent_here box.me x m, ends_closed-append) refl))
            (λ apart.
            ap (λ (l : Lane P). l.closed) (lane_other box x.from from l apart) ∙ h.closed from known
            ∙ rw (posts_on-append, sent_elsewhere from box.me x apart) (ap ends_closed (sym (append-nil (posts_on from box.me past))))));
      }

  -- a post, accepted or refused, is legal, and the lanes are what the events leave
  pub post_legal : (past : List (Event P)) (box : Inbox P) (r : Option PostRefusal) (x : Letter P) → Agrees past box → r ≡ post_refusal box x.from → x.to ≡ box.me → x.number ≡ posted (lane_from box x.from)
      → (is_close x.body ≡ true → x.tag.0 ≡ 0) → AreLegalAfter past (post_events r x) × Agrees (past ++ post_events r x) (after_post r box x)
  post_legal past box (Some why) x h e m n tag = (tt, rw append-nil h)
  post_legal past box None x h e m n tag = ((post_may_follow past box x h e m n tag, tt), post_agrees past box x h e m)

  took_one : (from me : ℕ) (queue : List (Letter P)) → length (takes_on from me (take_events from me queue)) ≡ min 1 (length queue)
  took_one from me [] = refl
  took_one from me (x ∷ xs) = grind (arith, common_steps)

  take_agrees : (past : List (Event P)) (box : Inbox P) (sender : ℕ) → Agrees past box → is_stranger box sender ≡ false
      → Agrees (past ++ take_events sender box.me (lane_from box sender).queue) (with_lane box sender (after_take (lane_from box sender)))
  take_agrees past box sender h known =
      let q = (lane_from box sender).queue in
      let l = after_take (lane_from box sender) in
      let es = take_events sender box.me q in
      let new = with_lane box sender l in
      record {
        balance = (λ from inside. balance_after past es box new from h (take_balanced box sender known) (known_before box sender from l inside));
        count = (λ from inside.
            let k = known_before box sender from l inside in
            let Q : ℕ → Type 0 = λ (m : ℕ). (lane_from new m).taken ≡ length (takes_on m box.me (past ++ es)) in
            same_or_other from sender (Q from)
            (λ same. subst Q (sym same)
            (let before = h.count sender known in
            let one = took_one sender box.me q in
            let size = length-append (takes_on sender box.me past) (takes_on sender box.me es) in
            let at_lane : (lane_from new sender).taken ≡ (lane_from box sender).taken + min 1 (length q) = ap (λ (l : Lane P). l.taken) (lane_at box sender l known) in
            rw takes_on-append (omega arith)))
            (λ apart.
            ap (λ (l : Lane P). l.taken) (lane_other box sender from l apart) ∙ h.count from k
            ∙ rw (takes_on-append, take_other from sender box.me q apart) (ap length (sym (append-nil (takes_on from box.me past))))));
        closed = (λ from inside.
            let k = known_before box sender from l inside in
            let Q : ℕ → Type 0 = λ (m : ℕ). (lane_from new m).closed ≡ (lane_from box m).closed in
            let stays : Q from = same_or_other from sender (Q from)
            (λ same. subst Q (sym same) (ap (λ (l : Lane P). l.closed) (lane_at box sender l known)))
            (λ apart. ap (λ (l : Lane P). l.closed) (lane_other box sender from l apart)) in
            stays ∙ h.closed from k ∙ rw (posts_on-append, take_posts from sender box.me q) (ap ends_closed (sym (append-nil (posts_on from box.me past)))));
      }

  take_is_legal : (past : List (Event P)) (box : Inbox P) (sender : ℕ) (q : List (Letter P)) → (lane_from box sender).queue ≡ q → Agrees past box → is_stranger box sender ≡ false
      → AreLegalAfter past (take_events sender box.me q)
  take_is_legal past box sender [] e h known = tt
  take_is_legal past box sender (x ∷ xs) e h known = (take_may_follow past box sender x xs h known e, tt)

  take_legal : (past : List (Event P)) (box : Inbox P) (sender : ℕ) (b : Bool) → is_stranger box sender ≡ b → Agrees past box
      → AreLegalAfter past (if b then [] else take_events sender box.me (lane_from box sender).queue)
      × Agrees (past ++ (if b then [] else take_events sender box.me (lane_from box sender).queue)) (if b then box else with_lane box sender (after_take (lane_from box sender)))
  take_legal past box sender true e h = (tt, rw append-nil h)
  take_legal past box sender false e h = (take_is_legal past box sender (lane_from box sender).queue refl h e, take_agrees past box sender h e)

  call_legal : (past : List (Event P)) (box : Inbox P) (c : Call P) → IsPostable c → Agrees past box
      → AreLegalAfter past (events_of box c) × Agrees (past ++ events_of box c) (after box c)
  call_legal past box (Post from tag body) ok h = post_legal past box (post_refusal box from) (next_letter box from tag body) h refl refl refl (λ e. absurd (false_true (sym ok ∙ e)))
  call_legal past box (Close from) ok h = post_legal past box (post_refusal box from) (next_letter box from mark_tag Body.Close) h refl refl refl (λ e. refl)
  call_legal past box (Take from) ok h = take_legal past box from (is_stranger box from) refl h

  legal-append : (past xs ys : List (Event P)) → AreLegalAfter past xs → AreLegalAfter (past ++ xs) ys → AreLegalAfter past (xs ++ ys)
  legal-append past [] ys h k = rw append-nil at k
  legal-append past (x ∷ xs) ys h k = (h.0, legal-append (past ++ x ∷ []) xs ys h.1 (rw append_assoc k))

  all_legal : (past : List (Event P)) (box : Inbox P) (cs : List (Call P)) → All IsPostable cs → Agrees past box → AreLegalAfter past (events box cs)
  all_legal past box [] ok h = tt
  all_legal past box (c ∷ cs) ok h =
      let one = call_legal past box c (ok 0 c (omega arith)) h in
      legal-append past (events_of box c) (events (after box c) cs) one.0 (all_legal (past ++ events_of box c) (after box c) cs (λ k d below. ok (suc k) d (omega arith)) one.1)

  new_agrees : (box : Inbox P) → IsNew box → Agrees [] box
  new_agrees box new = record {
    balance = (λ from inside. sym (ap (λ (l : Lane P). l.queue) (new from inside).1));
    count = (λ from inside. ap (λ (l : Lane P). l.taken) (new from inside).1);
    closed = (λ from inside. ap (λ (l : Lane P). l.closed) (new from inside).1);
  }

  -- on a new mailbox the events of a list of calls are legal
  pub run_legal : (box : Inbox P) (cs : List (Call P)) → All IsPostable cs → IsNew box → AreLegal (events box cs)
  run_legal box cs ok new = all_legal [] box cs ok (new_agrees box new)
