-- One rank's ends of its lanes, over the mailboxes of all ranks.
use Rattle.std.specs.Prelude.{ℕ, ◌≡◌, ◌<◌, ◌≤◌, ◌||◌, ◌==◌, nat_le, false, Bool, if◌then◌else◌, List, [], length, slice_index_or, slice_set}
use Rattle.cb_letters.specs.declared.Letter.{Letter}
use Rattle.cb_letters.specs.declared.Taken.{Taken}
use Rattle.cb_letters.specs.declared.Taken.TheVariants as Answers
use Rattle.cb_letters.specs.declared.PostRefusal.{PostRefusal}
use Rattle.cb_letters.specs.Standing.{Standing, MayRefuse}
use Rattle.cb_letters.specs.Lane.{Lane, posted, append, HasRoom, take_answer, after_take}
use Rattle.cb_mailbox.specs.Inbox.{Inbox, lane_from, with_lane}

-- the rank's number, and the mailbox of each rank
pub record EndsView (P : Type 0) : Type 0 where
  pub me : ℕ
  pub boxes : List (Inbox P)

module _ {P : Type 0} where
  -- the mailbox of a rank; without lanes if there is no such rank
  abbrev pub box_in : List (Inbox P) → ℕ → Inbox P
  box_in boxes t = slice_index_or boxes t (record { me = t; lanes = [] })

  -- the mailboxes with another lane from one rank to another
  abbrev pub with_lane_in : List (Inbox P) → ℕ → ℕ → Lane P → List (Inbox P)
  with_lane_in boxes from to l = slice_set boxes to (with_lane (box_in boxes to) from l)

  -- the mailboxes once this letter is posted
  abbrev pub boxes_with : List (Inbox P) → Letter P → List (Inbox P)
  boxes_with boxes x = with_lane_in boxes x.from x.to (append (lane_from (box_in boxes x.to) x.from) x)

  -- the mailboxes once rank `to` has taken the oldest letter from rank `from`, if there is one
  abbrev pub boxes_after : List (Inbox P) → ℕ → ℕ → List (Inbox P)
  boxes_after boxes from to = with_lane_in boxes from to (after_take (lane_from (box_in boxes to) from))

  -- the lane on which this rank posts to another
  abbrev pub lane_to : EndsView P → ℕ → Lane P
  lane_to e to = lane_from (box_in e.boxes to) e.me

  -- there is no lane to this rank: it is the ends' own rank, or no rank
  abbrev pub is_out : EndsView P → ℕ → Bool
  is_out e k = (k == e.me) || nat_le (length e.boxes) k

  -- how the lane to this rank stands
  abbrev pub standing : EndsView P → ℕ → Standing
  standing e to = record { sender = e.me; is_stranger = is_out e to; is_closed = (lane_to e to).closed; posted = posted (lane_to e to) }

  -- there is a free place for a letter to this rank
  abbrev pub has_room : EndsView P → ℕ → Type 0
  has_room e to = HasRoom (lane_to e to)

  -- there is no free place for a letter to this rank
  abbrev pub may_be_full : EndsView P → ℕ → Type 0
  may_be_full e to = (lane_to e to).capacity ≤ length (lane_to e to).queue

  -- a post to this rank may be refused for this reason
  abbrev pub MayRefusePost : EndsView P → ℕ → PostRefusal → Type 0
  MayRefusePost e to reason = MayRefuse (standing e to) (may_be_full e to) reason

  -- nothing was posted and nothing taken
  abbrev pub keeps : EndsView P → EndsView P → Type 0
  keeps a b = b ≡ a

  -- this letter was posted to this rank: it is the last of its lane in the addressee's mailbox, and nothing else changed
  abbrev pub posts : EndsView P → ℕ → Letter P → EndsView P → Type 0
  posts a to x b =
      (is_out a to ≡ false) × (a.me < length (box_in a.boxes to).lanes)
      × (b ≡ record a { boxes = with_lane_in a.boxes a.me to (append (lane_to a to) x) })

  -- a take from this rank gave this answer: it took the oldest letter of the lane in the rank's own mailbox, if there is
  -- one, and nothing else changed
  abbrev pub takes : EndsView P → ℕ → Taken P → EndsView P → Type 0
  takes a from r b =
      (is_out a from ≡ false → a.me < length a.boxes)
      × (r ≡ (if is_out a from then Answers.Stranger else take_answer (lane_from (box_in a.boxes a.me) from)))
      × (b ≡ (if is_out a from then a else record a { boxes = boxes_after a.boxes from a.me }))

  -- there is a mailbox for each rank, with a lane from each rank; and the ends are those of one of the ranks, if there are any
  pub record IsEnds (e : EndsView P) : Type 0 where
    pub inside : 0 < length e.boxes → e.me < length e.boxes
    pub owners : (t : ℕ) → t < length e.boxes → (box_in e.boxes t).me ≡ t
    pub lanes : (t : ℕ) → t < length e.boxes → length (box_in e.boxes t).lanes ≡ length e.boxes
