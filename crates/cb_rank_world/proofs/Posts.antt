-- A post to a mailbox, as the rank that posts sees it.
use Rattle.std.proofs.Common.{ℕ, ◌≡◌, ◌<◌, Bool, true, false, length, Option, Some, None, Result, Ok, Err, IfOk, IfErr, OnErr, IsOk, if◌then◌else◌, refl, sym, ◌∙◌, ap, subst, arith}
use Rattle.std.specs.Prelude.{◌==◌, nat_lt, slice_set, slice_index_or}
use Rattle.std.proofs.lemmas.List.{set-get_or}
use Rattle.std.proofs.lemmas.Bool.Decides.{nat_tests}
use Rattle.cb_letters.specs.declared.Body.{Body}
use Rattle.cb_letters.specs.declared.Tag.{Tag}
use Rattle.cb_letters.specs.declared.Letter.{Letter}
use Rattle.cb_letters.specs.declared.PostRefusal.{PostRefusal}
use Rattle.cb_letters.specs.declared.PostRefusal.TheVariants.{Stranger, Closed, Spent, Full}
use Rattle.cb_letters.specs.Standing.{standing_refusal, last_number, IsAccepted}
use Rattle.cb_letters.specs.Letters.{mark_tag}
use Rattle.cb_letters.specs.Lane.{Lane, append, posted, refusal}
use Rattle.cb_mailbox.specs.Inbox.{Inbox, lane_from, with_lane, post_refusal, AcceptsFrom}
use Rattle.cb_rank_world.specs.Ends.{EndsView, IsEnds, box_in, lane_to, is_out, standing, has_room, MayRefusePost, keeps, posts}
use Rattle.cb_rank_world.specs.EndLaws.{is_rank, known_there}

-- why a lane refuses a letter, by three tests: it is closed, its numbers are spent, it has room
abbrev why_of : Bool → Bool → Bool → Option PostRefusal
why_of a b c = if a then Some Closed else (if b then Some Spent else (if c then None else Some Full))

-- the same, room aside
abbrev standing_of : Bool → Bool → Option PostRefusal
standing_of a b = if a then Some Closed else (if b then Some Spent else None)

nothing_refuses : (a b c : Bool) → why_of a b c ≡ None → standing_of a b ≡ None
nothing_refuses true b c h = h
nothing_refuses false true c h = h
nothing_refuses false false c h = refl

full_refuses : (a b c : Bool) → why_of a b c ≡ Some Full → (standing_of a b ≡ None) × (c ≡ false)
full_refuses true b c h = absurd cc
full_refuses false true c h = absurd cc
full_refuses false false true h = absurd cc
full_refuses false false false h = (refl, refl)

other_refuses : (a b c : Bool) (why : PostRefusal) → why_of a b c ≡ Some why → (Full ≡ why → ⊥) → standing_of a b ≡ Some why
other_refuses true b c why h other = h
other_refuses false true c why h other = h
other_refuses false false true why h other = absurd cc
other_refuses false false false why h other = absurd (other cc)

with_room : (a b : Bool) (why : PostRefusal) → why_of a b true ≡ Some why → standing_of a b ≡ None → ⊥
with_room true b why h e = cc
with_room false true why h e = cc
with_room false false why h e = cc

module _ {P : Type 0} (e : EndsView P) (to : ℕ) (x y : Inbox P) (sound : IsEnds e) (out : is_out e to ≡ false) (read : x ≡ slice_index_or e.boxes to x) where
  -- the lane in the mailbox of the addressee
  lane_is : lane_from x e.me ≡ lane_to e to
  lane_is = let it = known_there e to x sound out read in ap (λ (b : Inbox P). lane_from b e.me) it.1

  refused_there : (why : Option PostRefusal) → post_refusal x e.me ≡ why → why_of (lane_to e to).closed (posted (lane_to e to) == last_number) (nat_lt (length (lane_to e to).queue) (lane_to e to).capacity) ≡ why
  refused_there why h =
      let it = known_there e to x sound out read in
      subst (λ (l : Lane P). refusal l ≡ why) lane_is (subst (λ b. (if b then Some Stranger else refusal (lane_from x e.me)) ≡ why) it.0 h)

  stands : (why : Option PostRefusal) → standing_of (lane_to e to).closed (posted (lane_to e to) == last_number) ≡ why → standing_refusal (standing e to) ≡ why
  stands why h = subst (λ b. (if b then Some Stranger else standing_of (lane_to e to).closed (posted (lane_to e to) == last_number)) ≡ why) (sym out) h

  -- what the mailbox accepts is posted
  accepted_there : (tag : Tag) (body : Body P) (number : ℕ) → AcceptsFrom x e.me tag body number y
      → IsAccepted (standing e to) to tag body number (λ l. posts e to l (record e { boxes = slice_set e.boxes to y }))
  accepted_there tag body number accepts =
      let it = known_there e to x sound out read in
      let r = is_rank e to out in
      let box = it.1 in
      let me : x.me ≡ to = ap (λ (b : Inbox P). b.me) box ∙ sound.owners to r.0 in
      let letter : ℕ → ℕ → Letter P = λ k n. record { from = e.me; to = k; number = n; tag = tag; body = body } in
      let many : posted (lane_from x e.me) ≡ posted (lane_to e to) = ap posted lane_is in
      let put : y ≡ with_lane (box_in e.boxes to) e.me (append (lane_to e to) (letter to (posted (lane_to e to)))) =
      accepts.2 ∙ ap (λ (b : Inbox P). with_lane b e.me (append (lane_from b e.me) (letter b.me (posted (lane_from b e.me))))) box
      ∙ ap (λ k. with_lane (box_in e.boxes to) e.me (append (lane_to e to) (letter k (posted (lane_to e to))))) (sound.owners to r.0) in (
        stands None (nothing_refuses _ _ _ (refused_there None accepts.0)),
        accepts.1 ∙ many,
        (out, subst (λ (b : Inbox P). e.me < length b.lanes) box it.2, ap (λ b. record e { boxes = slice_set e.boxes to b }) put),
      )

  -- what the mailbox refuses may be refused
  refuses_there : (why : PostRefusal) → post_refusal x e.me ≡ Some why → MayRefusePost e to why
  refuses_there Stranger h = stands (Some Stranger) (other_refuses _ _ _ Stranger (refused_there (Some Stranger) h) (λ w. cc))
  refuses_there Closed h = stands (Some Closed) (other_refuses _ _ _ Closed (refused_there (Some Closed) h) (λ w. cc))
  refuses_there Spent h = stands (Some Spent) (other_refuses _ _ _ Spent (refused_there (Some Spent) h) (λ w. cc))
  refuses_there Full h =
      let it = full_refuses (lane_to e to).closed (posted (lane_to e to) == last_number) (nat_lt (length (lane_to e to).queue) (lane_to e to).capacity) (refused_there (Some Full) h) in
      let test = it.1 in
      (stands None it.0, grind (arith, nat_tests))

  -- a mailbox that is as before leaves all as before
  kept_there : y ≡ x → keeps e (record e { boxes = slice_set e.boxes to y })
  kept_there same = ap (λ b. record e { boxes = slice_set e.boxes to b }) (same ∙ read) ∙ ap (λ bs. record e { boxes = bs }) (set-get_or e.boxes to x)

  -- with room, a post that the lane's standing doesn't refuse isn't refused
  not_refused_there : (why : PostRefusal) → post_refusal x e.me ≡ Some why → has_room e to → standing_refusal (standing e to) ≡ None → ⊥
  not_refused_there why h room none =
      let test : nat_lt (length (lane_to e to).queue) (lane_to e to).capacity ≡ true = grind (arith, nat_tests, room) in
      with_room (lane_to e to).closed (posted (lane_to e to) == last_number) why
      (subst (λ c. why_of (lane_to e to).closed (posted (lane_to e to) == last_number) c ≡ Some why) test (refused_there (Some why) h))
      (subst (λ b. (if b then Some Stranger else standing_of (lane_to e to).closed (posted (lane_to e to) == last_number)) ≡ None) out none)

  module _ (body : Body P) where
    pub answer_accepted : (tag : Tag) (r : Result ℕ (PostRefusal × Body P)) → IfOk r (λ number. AcceptsFrom x e.me tag body number y)
        → IfOk r (λ number. IsAccepted (standing e to) to tag body number (λ l. posts e to l (record e { boxes = slice_set e.boxes to y })))
    answer_accepted tag (Ok number) accepts = accepted_there tag body number accepts
    answer_accepted tag (Err why) accepts = tt

    pub answer_refused : (r : Result ℕ (PostRefusal × Body P)) → IfErr r (λ w. (post_refusal x e.me ≡ Some w.0) × (w.1 ≡ body)) → OnErr r (y ≡ x)
        → IfErr r (λ w. MayRefusePost e to w.0 × (w.1 ≡ body) × keeps e (record e { boxes = slice_set e.boxes to y }))
    answer_refused (Ok number) refused same = tt
    answer_refused (Err why) refused same = (refuses_there why.0 refused.0, refused.1, kept_there same)

    pub answer_succeeds : (r : Result ℕ (PostRefusal × Body P)) → IfErr r (λ w. (post_refusal x e.me ≡ Some w.0) × (w.1 ≡ body)) → has_room e to → standing_refusal (standing e to) ≡ None → IsOk r
    answer_succeeds (Ok number) refused room none = refl
    answer_succeeds (Err why) refused room none = absurd (not_refused_there why.0 refused.0 room none)

  -- the same of a close mark
  pub close_accepted : (r : Result ℕ PostRefusal) → IfOk r (λ number. AcceptsFrom x e.me mark_tag Body.Close number y)
      → IfOk r (λ number. IsAccepted (standing e to) to mark_tag Body.Close number (λ l. posts e to l (record e { boxes = slice_set e.boxes to y })))
  close_accepted (Ok number) accepts = accepted_there mark_tag Body.Close number accepts
  close_accepted (Err why) accepts = tt

  pub close_refused : (r : Result ℕ PostRefusal) → IfErr r (λ w. post_refusal x e.me ≡ Some w) → OnErr r (y ≡ x) → IfErr r (λ w. MayRefusePost e to w × keeps e (record e { boxes = slice_set e.boxes to y }))
  close_refused (Ok number) refused same = tt
  close_refused (Err why) refused same = (refuses_there why refused, kept_there same)

  pub close_succeeds : (r : Result ℕ PostRefusal) → IfErr r (λ w. post_refusal x e.me ≡ Some w) → has_room e to → standing_refusal (standing e to) ≡ None → IsOk r
  close_succeeds (Ok number) refused room none = refl
  close_succeeds (Err why) refused room none = absurd (not_refused_there why refused room none)
