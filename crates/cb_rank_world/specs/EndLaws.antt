-- The laws of ports, for a rank's ends over mailboxes: how its lanes stand after a call.
use Rattle.std.proofs.Common.{ℕ, ◌≡◌, ◌≢◌, ◌<◌, ◌+◌, Bool, true, false, ◌||◌, List, [], ◌∷◌, length, refl, sym, ◌∙◌, ap, subst, arith, length-append}
use Rattle.std.specs.Prelude.{None, ◌==◌, nat_le, slice_set, slice_index_or}
use Rattle.std.proofs.lemmas.List.{get_or-set_same, get_or-set_other, set-get_or}
use Rattle.std.proofs.Math.ListN.{length-set}
use Rattle.std.proofs.lemmas.Bool.Decides.{nat_tests}
use Rattle.std.proofs.lemmas.Option.{same_Some, slice_get-get_or}
use Rattle.cb_letters.specs.declared.Letter.{Letter}
use Rattle.cb_letters.specs.declared.Taken.{Taken}
use Rattle.cb_letters.specs.declared.Taken.TheVariants as Answers
use Rattle.cb_letters.specs.Standing.{standing_refusal, stands_after, KeepsLane, CountsOn}
use Rattle.cb_letters.specs.Letters.{is_close}
use Rattle.cb_letters.specs.Lane.{Lane, HasRoom, new_lane, append, posted, answer_at, take_answer, after_take}
use Rattle.cb_letters.proofs.Standings.{same_standing, not_closed}
use Rattle.cb_mailbox.specs.Inbox.{Inbox, lane_from, with_lane, is_stranger}
use Rattle.cb_plan.proofs.Effects.{split}
use Rattle.cb_rank_world.specs.Ends.{EndsView, IsEnds, box_in, with_lane_in, boxes_after, lane_to, is_out, standing, has_room, keeps, posts, takes}

module _ {P : Type 0} where
  -- the mailboxes after one lane has changed: how many there are, that lane, and the others
  pub same_length : (boxes : List (Inbox P)) (f t : ℕ) (l : Lane P) → length (with_lane_in boxes f t l) ≡ length boxes
  same_length boxes f t l = length-set boxes t (with_lane (box_in boxes t) f l)

  pub box_here : (boxes : List (Inbox P)) (f t : ℕ) (l : Lane P) → t < length boxes
      → box_in (with_lane_in boxes f t l) t ≡ with_lane (box_in boxes t) f l
  box_here boxes f t l h = get_or-set_same boxes t (with_lane (box_in boxes t) f l) (record { me = t; lanes = [] }) h

  pub box_there : (boxes : List (Inbox P)) (f t k : ℕ) (l : Lane P) → k ≢ t → box_in (with_lane_in boxes f t l) k ≡ box_in boxes k
  box_there boxes f t k l n = get_or-set_other boxes t k (with_lane (box_in boxes t) f l) (record { me = k; lanes = [] }) n

  pub lane_here : (boxes : List (Inbox P)) (f t : ℕ) (l : Lane P) → t < length boxes → f < length (box_in boxes t).lanes
      → lane_from (box_in (with_lane_in boxes f t l) t) f ≡ l
  lane_here boxes f t l h k = ap (λ (b : Inbox P). lane_from b f) (box_here boxes f t l h) ∙ get_or-set_same (box_in boxes t).lanes f l (new_lane 0) k

  pub lane_by_addressee : (boxes : List (Inbox P)) (f t p q : ℕ) (l : Lane P) → q ≢ t
      → lane_from (box_in (with_lane_in boxes f t l) q) p ≡ lane_from (box_in boxes q) p
  lane_by_addressee boxes f t p q l n = ap (λ (b : Inbox P). lane_from b p) (box_there boxes f t q l n)

  pub lane_by_sender : (boxes : List (Inbox P)) (f t p q : ℕ) (l : Lane P) → t < length boxes → p ≢ f
      → lane_from (box_in (with_lane_in boxes f t l) q) p ≡ lane_from (box_in boxes q) p
  lane_by_sender boxes f t p q l h n =
      split (q == t)
      (λ e. let same : q ≡ t = grind (arith, nat_tests) in
      rw same (ap (λ (b : Inbox P). lane_from b p) (box_here boxes f t l h) ∙ get_or-set_other (box_in boxes t).lanes f p l (new_lane 0) n))
      (λ e. lane_by_addressee boxes f t p q l (grind (arith, nat_tests)))

  -- if nothing happened, every lane is kept
  pub kept : (p q : EndsView P) → keeps p q → (k : ℕ) → KeepsLane standing has_room p q k
  kept p q e k = (ap (λ s. standing s k) e, λ room. subst (λ s. has_room s k) (sym e) room)

  -- a post may be seen from any earlier state that kept everything
  pub kept_posts : (p q r : EndsView P) (to : ℕ) (x : Letter P) → keeps p q → posts q to x r → posts p to x r
  kept_posts p q r to x e h = subst (λ s. posts s to x r) e h

  -- a lane that hasn't changed is kept
  same_lane : (p : EndsView P) (boxes : List (Inbox P)) (k : ℕ)
      → length boxes ≡ length p.boxes → lane_from (box_in boxes k) p.me ≡ lane_to p k
      → KeepsLane standing has_room p (record p { boxes = boxes }) k
  same_lane p boxes k size e = (
    same_standing (standing (record p { boxes = boxes }) k) (standing p k) refl
        (ap (λ n. (k == p.me) || nat_le n k) size) (ap (λ (l : Lane P). l.closed) e) (ap posted e),
    λ room. subst (λ (l : Lane P). HasRoom l) (sym e) room,
  )

  -- a letter that is appended to an open lane closes it if it is a close mark, and is counted
  appended : (l : Lane P) (x : Letter P) → l.closed ≡ false → ((append l x).closed ≡ is_close x.body) × (posted (append l x) ≡ posted l + 1)
  appended l x h = let size = length-append l.queue (x ∷ []) in (rw h refl, omega arith)

  -- a rank to which there is a lane exists, and is another
  pub is_rank : (p : EndsView P) (k : ℕ) → is_out p k ≡ false → (k < length p.boxes) × (k ≢ p.me)
  is_rank p k e = (grind (arith, nat_tests), grind (arith, nat_tests))

  -- a posted letter counts on its own lane alone
  pub posted_law : (p q : EndsView P) (to : ℕ) (x : Letter P) → posts p to x q → standing_refusal (standing p to) ≡ None
      → CountsOn standing has_room p q to x
  posted_law p q to x h none =
      let l : Lane P = append (lane_to p to) x in
      let new : List (Inbox P) = with_lane_in p.boxes p.me to l in
      let size = same_length p.boxes p.me to l in
      let here : lane_from (box_in new to) p.me ≡ l = lane_here p.boxes p.me to l (is_rank p to h.0).0 h.1 in
      let both = appended (lane_to p to) x (not_closed (standing p to) none) in
      subst (λ (q : EndsView P). CountsOn standing has_room p q to x) (sym h.2) (
        same_standing (standing (record p { boxes = new }) to) (stands_after x (standing p to)) refl
            (ap (λ n. (to == p.me) || nat_le n to) size)
            (ap (λ (l : Lane P). l.closed) here ∙ both.0)
            (ap posted here ∙ both.1),
        λ k n. same_lane p new k size (lane_by_addressee p.boxes p.me to p.me k l n),
      )

  -- a take changes no lane on which this rank posts
  pub taken_law : (p q : EndsView P) (from : ℕ) (r : Taken P) → takes p from r q → (k : ℕ) → KeepsLane standing has_room p q k
  taken_law p q from r h k =
      split (is_out p from)
      (λ t. let same : q ≡ p = h.2 ∙ rw t refl in kept p q same k)
      (λ f.
      let apart : p.me ≢ from = let m = (is_rank p from f).1 in λ e. m (sym e) in
      let same : q ≡ record p { boxes = boxes_after p.boxes from p.me } = h.2 ∙ rw f refl in
      let l : Lane P = after_take (lane_from (box_in p.boxes p.me) from) in
      subst (λ (q : EndsView P). KeepsLane standing has_room p q k) (sym same)
      (same_lane p (boxes_after p.boxes from p.me) k (same_length p.boxes from p.me l) (lane_by_sender p.boxes from p.me p.me k l (h.0 f) apart)))

  -- a lane, by its parts
  abbrev lane_of : List (Letter P) → Bool → ℕ → ℕ → Lane P
  lane_of queue closed capacity taken = record { queue = queue; capacity = capacity; taken = taken; closed = closed }

  idle : (queue : List (Letter P)) (closed : Bool) (capacity taken : ℕ) → answer_at closed queue ≡ Answers.Empty
      → after_take (lane_of queue closed capacity taken) ≡ lane_of queue closed capacity taken
  idle [] closed capacity taken e = let same : taken + 0 ≡ taken = omega arith in rw same refl
  idle (x ∷ xs) true capacity taken e = split (is_close x.body) (λ t. let f = rw t at e in cc) (λ t. let f = rw t at e in cc)
  idle (x ∷ xs) false capacity taken e = split (is_close x.body) (λ t. let f = rw t at e in cc) (λ t. let f = rw t at e in cc)

  -- a lane on which nothing is queued is the same after a take
  nothing_waits : (l : Lane P) → take_answer l ≡ Answers.Empty → after_take l ≡ l
  nothing_waits l e = idle l.queue l.closed l.capacity l.taken e

  -- mailboxes that get the lane that they have are the same
  same_boxes : (boxes : List (Inbox P)) (f t : ℕ) (l : Lane P) → l ≡ lane_from (box_in boxes t) f → with_lane_in boxes f t l ≡ boxes
  same_boxes boxes f t l e =
      let lanes : slice_set (box_in boxes t).lanes f l ≡ (box_in boxes t).lanes =
      ap (λ x. slice_set (box_in boxes t).lanes f x) e ∙ set-get_or (box_in boxes t).lanes f (new_lane 0) in
      let box : with_lane (box_in boxes t) f l ≡ box_in boxes t = ap (λ xs. record (box_in boxes t) { lanes = xs }) lanes in
      ap (λ b. slice_set boxes t b) box ∙ set-get_or boxes t (record { me = t; lanes = [] })

  -- a take that returns `Empty` changes nothing
  pub empty : (p q : EndsView P) (from : ℕ) → takes p from Answers.Empty q → keeps p q
  empty p q from h =
      split (is_out p from)
      (λ t. h.2 ∙ rw t refl)
      (λ f.
      let answer : take_answer (lane_from (box_in p.boxes p.me) from) ≡ Answers.Empty = sym (h.1 ∙ rw f refl) in
      let same : q ≡ record p { boxes = boxes_after p.boxes from p.me } = h.2 ∙ rw f refl in
      same ∙ ap (λ boxes. record p { boxes = boxes }) (same_boxes p.boxes from p.me _ (nothing_waits _ answer)))

  -- an element that is read by its number, whatever stands for one past the end
  read_at : (xs : List (Inbox P)) (i : ℕ) (x d : Inbox P) → i < length xs → x ≡ slice_index_or xs i x → x ≡ slice_index_or xs i d
  read_at xs i x d l e = e ∙ same_Some _ _ (sym (slice_get-get_or xs i x l) ∙ slice_get-get_or xs i d l)

  -- the rank is no stranger in another's mailbox, read by its number
  pub known_there : (e : EndsView P) (to : ℕ) (x : Inbox P) → IsEnds e → is_out e to ≡ false → x ≡ slice_index_or e.boxes to x
      → (is_stranger x e.me ≡ false) × (x ≡ box_in e.boxes to) × (e.me < length x.lanes)
  known_there e to x is out read =
      let r = is_rank e to out in
      let some : 0 < length e.boxes = let l = r.0 in omega arith in
      let inside = is.inside some in
      let same : x ≡ box_in e.boxes to = read_at e.boxes to x (record { me = to; lanes = [] }) r.0 read in
      let me : x.me ≡ to = ap (λ (b : Inbox P). b.me) same ∙ is.owners to r.0 in
      let lanes : length x.lanes ≡ length e.boxes = ap (λ (b : Inbox P). length b.lanes) same ∙ is.lanes to r.0 in
      let apart = r.1 in
      (rw (me, lanes) (grind (arith, nat_tests)), same, omega arith)

  -- no other rank is a stranger in the rank's own mailbox
  pub known_here : (e : EndsView P) (from : ℕ) (x : Inbox P) → IsEnds e → is_out e from ≡ false → x ≡ slice_index_or e.boxes e.me x
      → (is_stranger x from ≡ false) × (x ≡ box_in e.boxes e.me) × (e.me < length e.boxes)
  known_here e from x is out read =
      let r = is_rank e from out in
      let some : 0 < length e.boxes = let l = r.0 in omega arith in
      let inside = is.inside some in
      let same : x ≡ box_in e.boxes e.me = read_at e.boxes e.me x (record { me = e.me; lanes = [] }) inside read in
      let me : x.me ≡ e.me = ap (λ (b : Inbox P). b.me) same ∙ is.owners e.me inside in
      let lanes : length x.lanes ≡ length e.boxes = ap (λ (b : Inbox P). length b.lanes) same ∙ is.lanes e.me inside in
      let below = r.0 in
      let apart = r.1 in
      (rw (me, lanes) (grind (arith, nat_tests)), same, inside)
