-- What the events of a world change.
use Rattle.std.specs.Prelude.{◌≡◌, ℕ, ◌⊎◌, List, [], ◌∷◌, Option, Some, None, slice_get, slice_set}
use Rattle.cb_semirings.specs.Arithmetic.{Arithmetic}
use Rattle.cb_matrix.specs.Sparse.{Sparse}
use Rattle.cb_letters.specs.declared.Tag.{Tag}
use Rattle.cb_letters.specs.declared.Letter.{Letter}
use Rattle.cb_letters.specs.declared.Body.{Body}
use Rattle.cb_letters.specs.declared.Body.TheVariants as body_is
use Rattle.cb_letters.specs.Letters.{mark_tag}
use Rattle.cb_letters.specs.Lane.{posted}
use Rattle.cb_mailbox.specs.Inbox.{Inbox}
use Rattle.cb_plan.specs.declared.acts.Half.{Half}
use Rattle.cb_plan.specs.declared.acts.Half.TheVariants as half_is
use Rattle.cb_plan.specs.declared.stores.Slot.{Slot}
use Rattle.cb_rank.specs.declared.wants.Arrival.TheVariants as arrival_is
use Rattle.cb_rank.specs.declared.wants.Moved.{Moved}
use Rattle.cb_rank.specs.declared.wants.Moved.TheVariants as moved_is
use Rattle.cb_rank.specs.Ranks.{RankView, onward, IsAwaited, slots_with}
use Rattle.cb_rank.specs.Steps.{HandsOut, Works, CountsRefusal, moved_by}
use Rattle.cb_rank_world.specs.declared.events.Event.{Event}
use Rattle.cb_rank_world.specs.declared.events.Event.TheVariants as event_is
use Rattle.cb_rank_world.specs.Ends.{boxes_with, boxes_after}
use Rattle.cb_rank_world.specs.Worlds.{WorldView, rank_of, next_of, lane_between, CanAct, IsReady}

-- the world with another rank r and other mailboxes
abbrev pub with_rank : WorldView → ℕ → RankView → List (Inbox Sparse) → WorldView
with_rank w r x boxes = record w { ranks = slice_set w.ranks r x; boxes = boxes }

-- rank r once it has done its next half, which left it these slots and refused it no memory
abbrev pub rank_after : WorldView → ℕ → List (Slot Sparse) → RankView
rank_after w r slots = onward (rank_of w r) slots (rank_of w r).refusals

-- the slots of rank r once this letter has arrived for this half
abbrev pub slots_after : WorldView → ℕ → Half → Letter Sparse → List (Slot Sparse)
slots_after w r half x = slots_with (Some half) (arrival_is.Letter x) (rank_of w r).slots

-- the next letter from rank r to another
abbrev pub letter_to : WorldView → ℕ → ℕ → Tag → Body Sparse → Letter Sparse
letter_to w r to tag body = record { from = r; to = to; number = posted (lane_between w r to); tag = tag; body = body }

-- this is the oldest letter that is queued on a lane
abbrev pub IsOldest : WorldView → ℕ → ℕ → Letter Sparse → Type 0
IsOldest w from to x = slice_get (lane_between w from to).queue 0 ≡ Some x

-- rank r does this half: it changes its slots and its count of refusals as it does by itself, and a letter is added to the lane
-- on which it posts, or removed from the lane from which it takes. Nothing else changes
abbrev pub DoesIn : Arithmetic → ℕ → Half → WorldView → WorldView → Type 0
DoesIn s r (half_is.Post to tag slot) old new =
    (body : Body Sparse) × (x : RankView) × HandsOut (rank_of old r) (Some (half_is.Post to tag slot)) tag body x
    × (new ≡ with_rank old r x (boxes_with old.boxes (letter_to old r to tag body)))
DoesIn s r (half_is.Take from tag into shape) old new =
    (x : Letter Sparse) × IsOldest old from r x × IsAwaited (Some (half_is.Take from tag into shape)) r (arrival_is.Letter x)
    × (new ≡ with_rank old r (rank_after old r (slots_after old r (half_is.Take from tag into shape) x)) (boxes_after old.boxes from r))
DoesIn s r (half_is.Work op) old new =
    (x : RankView) × Works s (rank_of old r) (Some (half_is.Work op)) x
    × (new ≡ with_rank old r x old.boxes)
DoesIn s r (half_is.Shut to) old new =
    new ≡ with_rank old r (rank_after old r (rank_of old r).slots) (boxes_with old.boxes (letter_to old r to mark_tag body_is.Close))
DoesIn s r (half_is.End from) old new =
    (x : Letter Sparse) × IsOldest old from r x × (x.body ≡ body_is.Close)
    × (new ≡ with_rank old r (rank_after old r (rank_of old r).slots) (boxes_after old.boxes from r))

-- a step of rank r, whose next half is this. If there is none, or the rank can't act, nothing changes. Otherwise the rank does
-- the half, and the result names its kind
abbrev pub StepsBy : Arithmetic → ℕ → Option Half → Moved → WorldView → WorldView → Type 0
StepsBy s r None moved old new = (moved ≡ moved_is.Idle) × (new ≡ old)
StepsBy s r (Some h) moved old new =
    ((moved ≡ moved_is.Waiting) × ¬ CanAct old r × (new ≡ old))
    ⊎ ((moved ≡ moved_by h) × CanAct old r × DoesIn s r h old new)

-- the rank that an event names
abbrev pub rank_in : Event → ℕ
rank_in (event_is.Step r) = r
rank_in (event_is.Starve r) = r

-- a starved rank that can act is refused the memory that it asks for, if any
abbrev pub IsStarved : Event → WorldView → WorldView → Type 0
IsStarved (event_is.Step r) old new = Unit {0}
IsStarved (event_is.Starve r) old new = CanAct old r → CountsRefusal (rank_of old r) (rank_of new r)

-- what an event changes
pub record Steps (s : Arithmetic) (event : Event) (moved : Moved) (old new : WorldView) : Type 0 where
  pub half : StepsBy s (rank_in event) (next_of old (rank_in event)) moved old new
  pub starved : IsStarved event old new

-- what events change, one after the other
abbrev pub RunsBy : Arithmetic → List Event → WorldView → WorldView → Type 0
RunsBy s [] old new = new ≡ old
RunsBy s (e ∷ es) old new = (moved : Moved) × (mid : WorldView) × Steps s e moved old mid × RunsBy s es mid new

-- steps of the least rank that can act, one after the other
abbrev pub FinishesBy : Arithmetic → List Event → WorldView → WorldView → Type 0
FinishesBy s [] old new = new ≡ old
FinishesBy s (event_is.Step r ∷ es) old new =
    IsReady old (Some r) × (moved : Moved) × (mid : WorldView) × Steps s (event_is.Step r) moved old mid × FinishesBy s es mid new
FinishesBy s (event_is.Starve r ∷ es) old new = ⊥
