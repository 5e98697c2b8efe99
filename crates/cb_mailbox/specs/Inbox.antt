-- A rank's mailbox: a lane from each other rank.
use Rattle.std.specs.Prelude.{ℕ, ◌≡◌, Bool, false, ◌||◌, ◌==◌, nat_le, if◌then◌else◌, List, length, Option, Some, None, slice_index_or, slice_set}
use Rattle.cb_letters.specs.declared.PostRefusal.{PostRefusal}
use Rattle.cb_letters.specs.declared.PostRefusal.TheVariants.{Stranger}
use Rattle.cb_letters.specs.declared.Body.{Body}
use Rattle.cb_letters.specs.declared.Letter.{Letter}
use Rattle.cb_letters.specs.declared.Tag.{Tag}
use Rattle.cb_letters.specs.Lane.{Lane, IsLane, new_lane, posted, refusal, append, after_take}

-- whose mailbox it is, and the lane from each rank; the one from itself is never used
pub record Inbox (P : Type 0) : Type 0 where
  pub me : ℕ
  pub lanes : List (Lane P)

module _ {P : Type 0} where
  -- there is no such sender: it is the rank itself, or no rank
  abbrev pub is_stranger : Inbox P → ℕ → Bool
  is_stranger box from = (from == box.me) || nat_le (length box.lanes) from

  -- the lane from this sender; if that is no rank, it has no places
  abbrev pub lane_from : Inbox P → ℕ → Lane P
  lane_from box from = slice_index_or box.lanes from (new_lane 0)

  -- the mailbox with another lane from this sender
  abbrev pub with_lane : Inbox P → ℕ → Lane P → Inbox P
  with_lane box from l = record box { lanes = slice_set box.lanes from l }

  -- the next letter of this sender
  abbrev pub next_letter : Inbox P → ℕ → Tag → Body P → Letter P
  next_letter box from tag body = record { from = from; to = box.me; number = posted (lane_from box from); tag = tag; body = body }

  -- why a post or a close by this sender is refused
  abbrev pub post_refusal : Inbox P → ℕ → Option PostRefusal
  post_refusal box from = if is_stranger box from then Some Stranger else refusal (lane_from box from)

  -- a letter of this sender was accepted: nothing refused it, it got the next number, and it is queued last on its lane
  abbrev pub AcceptsFrom : Inbox P → ℕ → Tag → Body P → ℕ → Inbox P → Type 0
  AcceptsFrom old from tag body number new =
      (post_refusal old from ≡ None)
      × (number ≡ posted (lane_from old from))
      × (new ≡ with_lane old from (append (lane_from old from) (next_letter old from tag body)))

  -- the mailbox after a take from this sender
  abbrev pub with_take : Inbox P → ℕ → Inbox P
  with_take box from = with_lane box from (after_take (lane_from box from))

  -- the lane from each sender is a lane from that sender to the mailbox's rank
  abbrev pub HasLanes : Inbox P → Type 0
  HasLanes box = (from : ℕ) → is_stranger box from ≡ false → IsLane from box.me (lane_from box from)
