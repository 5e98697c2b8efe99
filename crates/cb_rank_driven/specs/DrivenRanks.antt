-- One rank of a plan, driven half by half by another program, with the letters that it posted and took.
use Rattle.std.specs.Prelude.{◌≡◌, ℕ, ◌<◌, List, [], ◌∷◌, ◌++◌, length, take, get_or, Option, Some}
use Rattle.cb_semirings.specs.Arithmetic.{Arithmetic}
use Rattle.cb_matrix.specs.Sparse.{Sparse}
use Rattle.cb_letters.specs.declared.Body.TheVariants as body_is
use Rattle.cb_letters.specs.declared.Letter.{Letter}
use Rattle.cb_plan.specs.declared.acts.Half.{Half}
use Rattle.cb_plan.specs.declared.acts.Half.TheVariants as half_is
use Rattle.cb_plan.specs.declared.stores.Slot.{Slot}
use Rattle.cb_plan.specs.Plans.{CheckedView}
use Rattle.cb_rank.specs.declared.wants.Arrival.TheVariants as arrival_is
use Rattle.cb_rank.specs.declared.wants.Want.{Want}
use Rattle.cb_rank.specs.declared.wants.Want.TheVariants as want_is
use Rattle.cb_rank.specs.Halves.{Course, DoesHalf, RunsTo}
use Rattle.cb_rank.specs.Ranks.{RankView, IsRank, FitsAt, IsAwaited, next_half, new_rank, onward}
use Rattle.cb_rank_runs.specs.Runs.{fresh}
use Rattle.cb_rank_driven.specs.declared.driven_ranks.StepRefusal.{StepRefusal}
use Rattle.cb_rank_driven.specs.declared.driven_ranks.StepRefusal.TheVariants as refusal_is

-- the rank, the slots with which it began, and the letters to and from each rank, oldest first
pub record DrivenView : Type 0 where
  pub rank : RankView
  pub first : List (Slot Sparse)
  pub posted : List (List (Letter Sparse))
  pub taken : List (List (Letter Sparse))

abbrev pub driven_view : RankView → List (Slot Sparse) → List (List (Letter Sparse)) → List (List (Letter Sparse)) → DrivenView
driven_view rank first posted taken = record { rank = rank; first = first; posted = posted; taken = taken }

-- how far it has come
abbrev pub course_in : DrivenView → Course
course_in x = record {
  slots = x.rank.slots;
  refusals = x.rank.refusals;
  posted = λ k. get_or x.posted k [];
  taken = λ k. get_or x.taken k [];
}

-- the rank has done its first halves by itself, from its first slots and no letters; and there is a list for each rank
pub record IsDriven (s : Arithmetic) (x : DrivenView) : Type 0 where
  pub rank : IsRank x.rank
  pub ran : RunsTo s x.rank.me (take x.rank.done x.rank.program) (fresh x.first) (course_in x)
  pub posts : length x.posted ≡ x.rank.plan.ranks
  pub takes : length x.taken ≡ x.rank.plan.ranks

-- this rank of a plan has its first slots, and has done nothing
pub record HasDoneNothing (p : CheckedView) (me : ℕ) (x : DrivenView) : Type 0 where
  pub rank : x.rank ≡ new_rank p me x.first
  pub posted : (k : ℕ) → get_or x.posted k [] ≡ []
  pub taken : (k : ℕ) → get_or x.taken k [] ≡ []

-- the plan has such a rank, and these are the slots with which it begins there
abbrev pub CanStart : CheckedView → ℕ → List (Slot Sparse) → Type 0
CanStart p me slots = (me < p.ranks) × FitsAt p.starts me slots

-- it has done its next half, and nothing else
pub record DoesNext (s : Arithmetic) (x y : DrivenView) : Type 0 where
  pub half : Half
  pub next : next_half x.rank ≡ Some half
  pub does : DoesHalf s x.rank.me half (course_in x) (course_in y)
  pub one_more : y.rank ≡ onward x.rank y.rank.slots y.rank.refusals
  pub first : y.first ≡ x.first

-- by that it posted this letter
pub record Posts (s : Arithmetic) (x : DrivenView) (letter : Letter Sparse) (y : DrivenView) : Type 0 where
  pub does : DoesNext s x y
  pub posted : get_or y.posted letter.to [] ≡ get_or x.posted letter.to [] ++ letter ∷ []

-- a close mark from one rank to another
abbrev pub IsMark : {P : Type 0} → ℕ → ℕ → Letter P → Type 0
IsMark from to letter = (letter.from ≡ from) × (letter.to ≡ to) × (letter.tag.0 ≡ 0) × (letter.body ≡ body_is.Close)

-- a half of rank `me` waits for this letter
abbrev pub WaitsFor : Option Half → ℕ → Letter Sparse → Type 0
WaitsFor (Some (half_is.Take from tag into shape)) me letter = IsAwaited (Some (half_is.Take from tag into shape)) me (arrival_is.Letter letter)
WaitsFor (Some (half_is.End from)) me letter = IsMark from me letter
WaitsFor half me letter = ⊥

-- the next half waits for this letter, and it is the next on its lane
abbrev pub IsNextLetter : DrivenView → Letter Sparse → Type 0
IsNextLetter x letter = WaitsFor (next_half x.rank) x.rank.me letter × (letter.number ≡ length (get_or x.taken letter.from []))

-- the rank did its next half by taking this letter, for which it waited
pub record Takes (s : Arithmetic) (x : DrivenView) (letter : Letter Sparse) (y : DrivenView) : Type 0 where
  pub next : IsNextLetter x letter
  pub does : DoesNext s x y
  pub taken : get_or y.taken letter.from [] ≡ get_or x.taken letter.from [] ++ letter ∷ []

abbrev pub IsPostOrShut : Want → Type 0
IsPostOrShut (want_is.Post to) = Unit {0}
IsPostOrShut (want_is.Shut to) = Unit {0}
IsPostOrShut want = ⊥

-- why a call did nothing, which was to come now if this is its turn, with a letter that was the next one if that holds
abbrev pub IsRefusal : Type 0 → Type 0 → StepRefusal → Type 0
IsRefusal turn next refusal_is.NotNow = turn → ⊥
IsRefusal turn next refusal_is.Stray = turn × (next → ⊥)
IsRefusal turn next refusal_is.Memory = turn
