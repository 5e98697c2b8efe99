-- A world: all ranks of a checked plan, and their mailboxes.
use Rattle.std.specs.Prelude.{◌≡◌, ◌≢◌, ℕ, ◌-◌, ◌<◌, ◌≤◌, ◌^◌, List, [], length, get_or, sum_by, Option, Some, None}
use Rattle.cb_semirings.specs.Arithmetic.{Arithmetic}
use Rattle.cb_matrix.specs.Sparse.{Sparse}
use Rattle.cb_letters.specs.Lane.{Lane, IsLane, new_lane}
use Rattle.cb_mailbox.specs.Inbox.{Inbox, lane_from}
use Rattle.cb_plan.specs.declared.acts.Half.{Half}
use Rattle.cb_plan.specs.declared.acts.Half.TheVariants as half_is
use Rattle.cb_plan.specs.declared.stores.Slot.{Slot}
use Rattle.cb_plan.specs.Algebras.{matrices}
use Rattle.cb_plan.specs.PlanLetters.{letters}
use Rattle.cb_plan.specs.Plans.{CheckedView, IsChecked}
use Rattle.cb_plan.specs.Stores.{state_of, Fits}
use Rattle.cb_rank.specs.Agreement.{System, Agrees}
use Rattle.cb_rank.specs.Halves.{slot_at}
use Rattle.cb_rank.specs.Ranks.{RankView, IsRank, new_rank, next_half}
use Rattle.cb_rank_world.specs.Ends.{box_in}

-- the plan, the stores that the world began with, and the capacity of its lanes, none of which changes; the ranks; and their
-- mailboxes
pub record WorldView : Type 0 where
  pub plan : CheckedView
  pub first : List (List (Slot Sparse))
  pub capacity : ℕ
  pub ranks : List RankView
  pub boxes : List (Inbox Sparse)

-- a world, by its parts
abbrev pub world_view : CheckedView → List (List (Slot Sparse)) → ℕ → List RankView → List (Inbox Sparse) → WorldView
world_view plan first capacity ranks boxes =
    record { plan = plan; first = first; capacity = capacity; ranks = ranks; boxes = boxes }

-- a rank that has nothing to do, which stands for a rank that doesn't exist
abbrev pub no_rank : RankView
no_rank = record { plan = record { ranks = 0; starts = []; acts = [] }; me = 0; program = []; done = 0; slots = []; refusals = 0 }

abbrev pub rank_of : WorldView → ℕ → RankView
rank_of w r = get_or w.ranks r no_rank

-- the next half of a rank; none if the rank is done or doesn't exist
abbrev pub next_of : WorldView → ℕ → Option Half
next_of w r = next_half (rank_of w r)

-- the lane from one rank to another
abbrev pub lane_between : WorldView → ℕ → ℕ → Lane Sparse
lane_between w from to = lane_from (box_in w.boxes to) from

-- the world as a running system
abbrev pub system_of : WorldView → System Sparse
system_of w = record {
  done = λ r. (rank_of w r).done;
  slots = λ r n. slot_at (rank_of w r).slots n;
  refusals = λ r. (rank_of w r).refusals;
  lane = lane_between w;
}

-- rank r is a rank of the world's plan, with number r
pub record HasRank (w : WorldView) (r : ℕ) : Type 0 where
  pub plan : (rank_of w r).plan ≡ w.plan
  pub number : (rank_of w r).me ≡ r
  pub sound : IsRank (rank_of w r)

-- the mailbox of rank t has number t and a lane from each rank. The one from another rank is a lane from that rank to rank t,
-- with the world's capacity
pub record HasBox (w : WorldView) (t : ℕ) : Type 0 where
  pub number : (box_in w.boxes t).me ≡ t
  pub lanes : length (box_in w.boxes t).lanes ≡ w.plan.ranks
  pub capacity : (f : ℕ) → f < w.plan.ranks → f ≢ t → (lane_between w f t).capacity ≡ w.capacity
  pub sound : (f : ℕ) → f < w.plan.ranks → f ≢ t → IsLane f t (lane_between w f t)

-- the world agrees with its own plan and the stores that it began with
pub record IsWorld (s : Arithmetic) (w : WorldView) : Type 0 where
  pub checked : IsChecked w.plan
  pub fits : Fits w.plan.ranks w.plan.starts w.first
  pub few : w.plan.ranks < 2 ^ 16
  pub capacity : 1 ≤ w.capacity
  pub sizes : (length w.ranks ≡ w.plan.ranks) × (length w.boxes ≡ w.plan.ranks)
  pub ranks : (r : ℕ) → r < w.plan.ranks → HasRank w r
  pub boxes : (t : ℕ) → t < w.plan.ranks → HasBox w t
  pub agrees : Agrees (matrices s) w.plan.acts (state_of w.first) (system_of w)

-- a world in which nothing is done: each rank is new, with its store, and each lane is new
pub record IsNewWorld (p : CheckedView) (stores : List (List (Slot Sparse))) (c : ℕ) (w : WorldView) : Type 0 where
  pub plan : w.plan ≡ p
  pub first : w.first ≡ stores
  pub capacity : w.capacity ≡ c
  pub sizes : (length w.ranks ≡ p.ranks) × (length w.boxes ≡ p.ranks)
  pub ranks : (r : ℕ) → r < p.ranks → rank_of w r ≡ new_rank p r (get_or stores r [])
  pub boxes : (t : ℕ) → t < p.ranks → ((box_in w.boxes t).me ≡ t) × (length (box_in w.boxes t).lanes ≡ p.ranks)
  pub lanes : (f t : ℕ) → f < p.ranks → t < p.ranks → f ≢ t → lane_between w f t ≡ new_lane c

-- rank r can do this half: a Post or a Shut needs room, a Take or an End needs a letter, and a Work needs neither
abbrev pub CanDo : WorldView → ℕ → Option Half → Type 0
CanDo w r (Some (half_is.Post to tag slot)) = length (lane_between w r to).queue < w.capacity
CanDo w r (Some (half_is.Take from tag into shape)) = 0 < length (lane_between w from r).queue
CanDo w r (Some (half_is.Work op)) = Unit {0}
CanDo w r (Some (half_is.Shut to)) = length (lane_between w r to).queue < w.capacity
CanDo w r (Some (half_is.End from)) = 0 < length (lane_between w from r).queue
CanDo w r None = ⊥

-- rank r can do its next half
abbrev pub CanAct : WorldView → ℕ → Type 0
CanAct w r = CanDo w r (next_of w r)

-- every rank has done all its halves
abbrev pub AllDone : WorldView → Type 0
AllDone w = (r : ℕ) → next_of w r ≡ None

-- this is the least rank that can act, or there is none and all are done
abbrev pub IsReady : WorldView → Option ℕ → Type 0
IsReady w (Some r) = CanAct w r × ((q : ℕ) → q < r → ¬ CanAct w q)
IsReady w None = AllDone w

-- the number of halves that aren't done, over all ranks
abbrev pub remaining : WorldView → ℕ
remaining w = sum_by (λ x. length x.program - x.done) w.ranks

-- the number of times that memory was refused, over all ranks
abbrev pub refusals_in : WorldView → ℕ
refusals_in w = sum_by (λ x. x.refusals) w.ranks

-- all ranks are done: no letter is queued, and on each lane all letters of the plan were taken
pub record IsFinished (s : Arithmetic) (w : WorldView) : Type 0 where
  pub done : AllDone w
  pub queues : (f t : ℕ) → f ≢ t → (lane_between w f t).queue ≡ []
  pub taken : (f t : ℕ) → f ≢ t → (lane_between w f t).taken ≡ length (letters (matrices s) w.plan.acts (state_of w.first) f t)
