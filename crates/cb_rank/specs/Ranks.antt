-- One rank: its program, how far it has come, and its slots.
use Rattle.std.specs.Prelude.{◌≡◌, ◌≢◌, ℕ, ◌+◌, ◌<◌, ◌≤◌, ◌==◌, ◌||◌, Bool, true, false, if◌then◌else◌, Option, Some, None, IsSome}
use Rattle.std.specs.Prelude.{List, [], ◌∷◌, length, take, slice_get, slice_set}
use Rattle.cb_matrix.specs.Sparse.{Sparse, Extent}
use Rattle.cb_letters.specs.Standing.{Standing}
use Rattle.cb_plan.specs.declared.acts.Half.{Half}
use Rattle.cb_plan.specs.declared.acts.Half.TheVariants as half_is
use Rattle.cb_plan.specs.declared.acts.Op.{Op}
use Rattle.cb_plan.specs.declared.acts.Start.{Start}
use Rattle.cb_plan.specs.declared.stores.Slot.{Slot}
use Rattle.cb_plan.specs.declared.stores.Slot.TheVariants as slot_is
use Rattle.cb_plan.specs.declared.stores.TheConstants.{SLOTS}
use Rattle.cb_plan.specs.Algebras.{shapes}
use Rattle.cb_plan.specs.Checks.{all_filled, operands_of, shapes_agree, started}
use Rattle.cb_plan.specs.PlanLetters.{before}
use Rattle.cb_plan.specs.Meaning.{meaning}
use Rattle.cb_plan.specs.Plans.{CheckedView, IsChecked}
use Rattle.cb_plan.specs.Programs.{project}
use Rattle.cb_plan.specs.Stores.{shapes_in, is_lost}
use Rattle.cb_rank.specs.declared.wants.Arrival.{Arrival}
use Rattle.cb_rank.specs.declared.wants.Arrival.TheVariants as arrival_is
use Rattle.cb_rank.specs.declared.wants.Want.{Want}
use Rattle.cb_rank.specs.declared.wants.Want.TheVariants as want_is
use Rattle.cb_rank.specs.Halves.{slot_at, slot_of_body, HasKind}

-- the plan and the rank's number, its program, how many halves are done, its slots, and how often it was refused memory
pub record RankView : Type 0 where
  pub plan : CheckedView
  pub me : ℕ
  pub program : List Half
  pub done : ℕ
  pub slots : List (Slot Sparse)
  pub refusals : ℕ

-- a rank, by its parts
abbrev pub rank_view : CheckedView → ℕ → List Half → ℕ → List (Slot Sparse) → ℕ → RankView
rank_view plan me program done slots refusals =
    record { plan = plan; me = me; program = program; done = done; slots = slots; refusals = refusals }

abbrev pub next_half : RankView → Option Half
next_half x = slice_get x.program x.done

abbrev pub want_of : Option Half → Want
want_of (Some (half_is.Post to tag slot)) = want_is.Post to
want_of (Some (half_is.Take from tag into shape)) = want_is.Take from
want_of (Some (half_is.Work op)) = want_is.Work
want_of (Some (half_is.Shut to)) = want_is.Shut to
want_of (Some (half_is.End from)) = want_is.End from
want_of None = want_is.Done

abbrev pub IsPost : Want → Type 0
IsPost (want_is.Post to) = Unit {0}
IsPost want = ⊥

abbrev pub IsShut : Want → Type 0
IsShut (want_is.Shut to) = Unit {0}
IsShut want = ⊥

abbrev pub IsTakeOrEnd : Want → Type 0
IsTakeOrEnd (want_is.Take from) = Unit {0}
IsTakeOrEnd (want_is.End from) = Unit {0}
IsTakeOrEnd want = ⊥

-- one more half is done
abbrev pub onward : RankView → List (Slot Sparse) → ℕ → RankView
onward x slots refusals = record x { done = x.done + 1; slots = slots; refusals = refusals }

-- what has arrived is what the half waits for: it has the right sender, addressee, tag and kind
abbrev pub IsAwaited : Option Half → ℕ → Arrival Sparse → Type 0
IsAwaited (Some (half_is.Take from tag into shape)) me (arrival_is.Letter x) = (x.from ≡ from) × (x.to ≡ me) × (x.tag ≡ tag) × HasKind shape x.body
IsAwaited (Some (half_is.End from)) me (arrival_is.End sender) = sender ≡ from
IsAwaited half me arrival = ⊥

-- the slots after it has been taken
abbrev pub slots_with : Option Half → Arrival Sparse → List (Slot Sparse) → List (Slot Sparse)
slots_with (Some (half_is.Take from tag into shape)) (arrival_is.Letter x) slots = slice_set slots into (slot_of_body x.body)
slots_with half arrival slots = slots

-- the slot that a Take fills exists
abbrev pub HasSlot : Half → Type 0
HasSlot (half_is.Take from tag into shape) = into < SLOTS
HasSlot half = Unit {0}

-- a slot is filled exactly if there is a shape, and its sheet has this shape; a lost slot may have any
abbrev pub HasShape : Option Extent → Slot Sparse → Type 0
HasShape shape slot_is.Empty = shape ≡ None
HasShape shape (slot_is.Sheet m) = shape ≡ Some m.shape
HasShape shape (slot_is.Lost origin) = IsSome shape

-- the slots have shapes that the operation requires
abbrev pub FitOperation : Op → List (Slot Sparse) → Type 0
FitOperation op slots =
    (shape : ℕ → Option Extent)
    × (all_filled shape (operands_of op) ≡ true)
    × (shapes_agree shape op ≡ true)
    × ((n : ℕ) → HasShape (shape n) (slot_at slots n))

-- the shapes that the check gives the slots of a rank that has done this many halves
abbrev pub shapes_at : CheckedView → ℕ → ℕ → ℕ → Option Extent
shapes_at plan me done n = meaning shapes (before plan.acts me done) (started plan.starts) me n

-- the rank has its program of a checked plan, and its slots have the shapes that the check gives them
pub record IsRank (x : RankView) : Type 0 where
  pub checked : IsChecked x.plan
  pub number : x.me < x.plan.ranks
  pub program : x.program ≡ project x.plan.starts x.plan.acts x.me
  pub progress : x.done ≤ length x.program
  pub refusals : x.refusals ≤ x.done
  pub size : length x.slots ≡ SLOTS
  pub shapes : (n : ℕ) → HasShape (shapes_at x.plan x.me x.done n) (slot_at x.slots n)

-- one rank's part of a store that fits: sheets exactly where the starts say, of their shapes, and nothing lost
pub record FitsAt (starts : List Start) (me : ℕ) (slots : List (Slot Sparse)) : Type 0 where
  pub size : length slots ≡ SLOTS
  pub shapes : (n : ℕ) → shapes_in slots n ≡ started starts me n
  pub none_lost : (n : ℕ) → is_lost (slot_at slots n) ≡ false

-- a rank that has done nothing
abbrev pub new_rank : CheckedView → ℕ → List (Slot Sparse) → RankView
new_rank plan me slots = record { plan = plan; me = me; program = project plan.starts plan.acts me; done = 0; slots = slots; refusals = 0 }

-- the number of letters that these halves post to a rank, close marks included
abbrev pub posted_to : ℕ → List Half → ℕ
posted_to k [] = 0
posted_to k (half_is.Post to tag slot ∷ halves) = (if to == k then 1 else 0) + posted_to k halves
posted_to k (half_is.Take from tag into shape ∷ halves) = posted_to k halves
posted_to k (half_is.Work op ∷ halves) = posted_to k halves
posted_to k (half_is.Shut to ∷ halves) = (if to == k then 1 else 0) + posted_to k halves
posted_to k (half_is.End from ∷ halves) = posted_to k halves

-- whether these halves shut the lane to a rank
abbrev pub is_shut_to : ℕ → List Half → Bool
is_shut_to k [] = false
is_shut_to k (half_is.Post to tag slot ∷ halves) = is_shut_to k halves
is_shut_to k (half_is.Take from tag into shape ∷ halves) = is_shut_to k halves
is_shut_to k (half_is.Work op ∷ halves) = is_shut_to k halves
is_shut_to k (half_is.Shut to ∷ halves) = (to == k) || is_shut_to k halves
is_shut_to k (half_is.End from ∷ halves) = is_shut_to k halves

-- how the lane to a rank stands once these halves are done
abbrev pub standing_by : ℕ → List Half → ℕ → Standing
standing_by me halves k = record { sender = me; is_stranger = false; is_closed = is_shut_to k halves; posted = posted_to k halves }

-- the ports are those of this rank among the ranks of its plan, and have posted exactly what its finished halves post
abbrev pub ArePortsOf : RankView → (ℕ → Standing) → Type 0
ArePortsOf x standing = (k : ℕ) → k < x.plan.ranks → k ≢ x.me → standing k ≡ standing_by x.me (take x.done x.program) k
