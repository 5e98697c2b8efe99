-- What one call does on one lane: it adds a letter, removes one, or does nothing.
use Rattle.std.proofs.Common.{◌≡◌, ◌≢◌, ℕ, Bool, true, false, if◌then◌else◌, List, [], ◌∷◌, ◌==◌, Option, Some, None, take, ◌⊎◌, inl, inr, refl, sym, subst, arith}
use Rattle.std.proofs.lemmas.Grind.{common_steps}
use Rattle.cb_letters.specs.declared.Letter.{Letter}
use Rattle.cb_letters.specs.declared.Tag.{Tag}
use Rattle.cb_letters.specs.declared.Taken.{Taken}
use Rattle.cb_letters.specs.declared.Taken.TheVariants as Answers
use Rattle.cb_letters.specs.declared.Body.{Body}
use Rattle.cb_letters.specs.declared.PostRefusal.{PostRefusal}
use Rattle.cb_letters.specs.Letters.{is_close, mark_tag}
use Rattle.cb_letters.specs.Lane.{Lane, IsAddressed, refusal, append, after_take, posted, take_answer, answer_at}
use Rattle.cb_mailbox.specs.declared.calls.Call.{Call}
use Rattle.cb_mailbox.specs.declared.calls.Call.TheVariants.{Post, Take, Close}
use Rattle.cb_mailbox.specs.declared.calls.Reply.TheVariants.{Took}
use Rattle.cb_mailbox.specs.Inbox.{Inbox, is_stranger, lane_from, with_lane, post_refusal, next_letter}
use Rattle.cb_mailbox.specs.Run.{answer, after, after_post, post_answer}
use Rattle.cb_mailbox.specs.Exchanges.{when, accepted_by, taken_by, without_marks}
use Rattle.cb_mailbox.proofs.Inboxes.{lane_at, lane_other, same_or_other}

module _ {P : Type 0} where
  -- nothing happened
  pub record Stays (l m : Lane P) (posts takes : List (Letter P)) : Type 0 where
    pub lane : m ≡ l
    pub none : posts ≡ []
    pub kept : takes ≡ []

  -- a letter was accepted
  pub record Accepts (from to : ℕ) (l m : Lane P) (posts takes : List (Letter P)) : Type 0 where
    pub letter : Letter P
    pub granted : refusal l ≡ None
    pub addressed : IsAddressed from to (posted l) letter
    pub lane : m ≡ append l letter
    pub one : posts ≡ letter ∷ []
    pub kept : takes ≡ []

  -- the oldest letter was taken, if there was one
  pub record HandsOut (l m : Lane P) (posts takes : List (Letter P)) : Type 0 where
    pub lane : m ≡ after_take l
    pub none : posts ≡ []
    pub oldest : takes ≡ without_marks (take 1 l.queue)

  abbrev pub LaneStep : ℕ → ℕ → Lane P → Lane P → List (Letter P) → List (Letter P) → Type 0
  LaneStep from to l m posts takes = Stays l m posts takes ⊎ (Accepts from to l m posts takes ⊎ HandsOut l m posts takes)

  -- the letter, if the post is accepted
  abbrev posts_of : Option PostRefusal → List (Letter P) → List (Letter P)
  posts_of None xs = xs
  posts_of (Some why) xs = []

  when_other : (f from : ℕ) (x : Letter P) → from ≢ f → when (f == from) x ≡ []
  when_other f from x apart = grind (arith, common_steps)

  when_same : (f : ℕ) (x : Letter P) → when (f == f) x ≡ x ∷ []
  when_same f x = grind (arith, common_steps)

  -- a letter that is accepted from one sender, on each lane
  accepted_step : (box : Inbox P) (from : ℕ) (x : Letter P) → is_stranger box from ≡ false → None ≡ post_refusal box x.from → x.to ≡ box.me → x.number ≡ posted (lane_from box x.from)
      → LaneStep from box.me (lane_from box from) (lane_from (with_lane box x.from (append (lane_from box x.from) x)) from) (when (x.from == from) x) []
  accepted_step box from x inside granted to number =
      let m = append (lane_from box x.from) x in
      let Q : ℕ → Type 0 = λ n. LaneStep n box.me (lane_from box n) (lane_from (with_lane box x.from m) n) (when (x.from == n) x) [] in
      same_or_other from x.from (Q from)
      (λ same. subst Q (sym same)
      (let known : is_stranger box x.from ≡ false = subst (λ n. is_stranger box n ≡ false) same inside in
      inr (inl (record {
        letter = x;
        granted = rw known at (sym granted);
        addressed = record { sender = refl; addressee = to; numbered = number };
        lane = lane_at box x.from m known;
        one = when_same x.from x;
        kept = refl;
      }))))
      (λ apart. inl (record { lane = lane_other box x.from from m apart; none = when_other x.from from x apart; kept = refl }))

  -- a post or a close, accepted or refused
  post_step : (box : Inbox P) (from f : ℕ) (r : Option PostRefusal) (tag : Tag) (body : Body P) → is_stranger box from ≡ false → r ≡ post_refusal box f
      → (ps : List (Letter P)) → ps ≡ posts_of r (when (f == from) (next_letter box f tag body))
      → LaneStep from box.me (lane_from box from) (lane_from (after_post r box (next_letter box f tag body)) from) ps []
  post_step box from f (Some why) tag body inside e ps is = inl (record { lane = refl; none = is; kept = refl })
  post_step box from f None tag body inside e ps is = rw is (accepted_step box from (next_letter box f tag body) inside e refl refl)

  accepted_post : (box : Inbox P) (from f : ℕ) (r : Option PostRefusal) (tag : Tag) (body : Body P)
      → accepted_by from box.me (Post f tag body) (post_answer r (posted (lane_from box f)) (Some body)) ≡ posts_of r (when (f == from) (next_letter box f tag body))
  accepted_post box from f (Some why) tag body = refl
  accepted_post box from f None tag body = refl

  accepted_close : (box : Inbox P) (from f : ℕ) (r : Option PostRefusal)
      → accepted_by from box.me (Close f) (post_answer r (posted (lane_from box f)) None) ≡ posts_of r (when (f == from) (next_letter box f mark_tag Body.Close))
  accepted_close box from f (Some why) = refl
  accepted_close box from f None = refl

  no_take_post : (from f n : ℕ) (r : Option PostRefusal) (tag : Tag) (body : Body P) → taken_by from (Post f tag body) (post_answer r n (Some body)) ≡ []
  no_take_post from f n (Some why) tag body = refl
  no_take_post from f n None tag body = refl

  no_take_close : (from f n : ℕ) (r : Option PostRefusal) → taken_by {P = P} from (Close f) (post_answer r n None) ≡ []
  no_take_close from f n (Some why) = refl
  no_take_close from f n None = refl

  -- a take hands out the oldest queued letter of a lane, unless it is a close mark
  oldest_of : (from : ℕ) (closed : Bool) (q : List (Letter P)) → taken_by from (Take from) (Took (answer_at closed q)) ≡ without_marks (take 1 q)
  oldest_of from true [] = refl
  oldest_of from false [] = refl
  oldest_of from closed (x ∷ xs) = by_mark closed (is_close x.body) refl
    where
      by_mark : (closed b : Bool) → is_close x.body ≡ b → taken_by from (Take from) (Took (answer_at closed (x ∷ xs))) ≡ without_marks (x ∷ [])
      by_mark true true e = grind (arith, common_steps, e)
      by_mark true false e = grind (arith, common_steps, e, when_same from x)
      by_mark false true e = grind (arith, common_steps, e)
      by_mark false false e = grind (arith, common_steps, e, when_same from x)

  -- it hands out nothing of another sender
  nothing_of : (from f : ℕ) (a : Taken P) → from ≢ f → taken_by from (Take f) (Took a) ≡ []
  nothing_of from f (Answers.Letter x) apart = when_other f from x apart
  nothing_of from f Answers.End apart = refl
  nothing_of from f Answers.Empty apart = refl
  nothing_of from f Answers.Stranger apart = refl

  take_step : (box : Inbox P) (from f : ℕ) (b : Bool) → is_stranger box f ≡ b → is_stranger box from ≡ false
      → LaneStep from box.me (lane_from box from) (lane_from (if b then box else with_lane box f (after_take (lane_from box f))) from) [] (taken_by from (Take f) (Took (if b then Answers.Stranger else take_answer (lane_from box f))))
  take_step box from f true e inside = inl (record { lane = refl; none = refl; kept = refl })
  take_step box from f false e inside =
      let m = after_take (lane_from box f) in
      let Q : ℕ → Type 0 = λ n. LaneStep n box.me (lane_from box n) (lane_from (with_lane box f m) n) [] (taken_by n (Take f) (Took (take_answer (lane_from box f)))) in
      same_or_other from f (Q from)
      (λ same. subst Q (sym same) (inr (inr (record { lane = lane_at box f m e; none = refl; oldest = oldest_of f (lane_from box f).closed (lane_from box f).queue }))))
      (λ apart. inl (record { lane = lane_other box f from m apart; none = refl; kept = nothing_of from f (take_answer (lane_from box f)) apart }))

  -- a call on each lane
  pub lane_step : (box : Inbox P) (c : Call P) (from : ℕ) → is_stranger box from ≡ false
      → LaneStep from box.me (lane_from box from) (lane_from (after box c) from) (accepted_by from box.me c (answer box c)) (taken_by from c (answer box c))
  lane_step box (Post f tag body) from inside =
      let r = post_refusal box f in
      rw (no_take_post from f (posted (lane_from box f)) r tag body) (post_step box from f r tag body inside refl _ (accepted_post box from f r tag body))
  lane_step box (Close f) from inside =
      let r = post_refusal box f in
      rw (no_take_close from f (posted (lane_from box f)) r) (post_step box from f r mark_tag Body.Close inside refl _ (accepted_close box from f r))
  lane_step box (Take f) from inside = take_step box from f (is_stranger box f) refl inside
