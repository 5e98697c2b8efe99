-- What the calls of a rank do, and what a step does to the rank and its ports.
use Rattle.std.specs.Prelude.{◌≡◌, ℕ, zero, suc, ◌+◌, ◌≤◌, ◌⊎◌, true, Result, Ok, Err, Option, Some, None, IfSome, slice_set}
use Rattle.cb_semirings.specs.Arithmetic.{Arithmetic}
use Rattle.cb_matrix.specs.Sparse.{Sparse}
use Rattle.cb_letters.specs.declared.Tag.{Tag}
use Rattle.cb_letters.specs.declared.Letter.{Letter}
use Rattle.cb_letters.specs.declared.Body.{Body}
use Rattle.cb_letters.specs.declared.Body.TheVariants as body_is
use Rattle.cb_letters.specs.declared.Taken.{Taken}
use Rattle.cb_letters.specs.declared.Taken.TheVariants as taken_is
use Rattle.cb_letters.specs.Letters.{mark_tag}
use Rattle.cb_letters.specs.Standing.{Standing, next_letter}
use Rattle.cb_plan.specs.declared.acts.Half.{Half}
use Rattle.cb_plan.specs.declared.acts.Half.TheVariants as half_is
use Rattle.cb_plan.specs.declared.stores.Slot.{Slot}
use Rattle.cb_plan.specs.Meaning.{target_of}
use Rattle.cb_rank.specs.declared.wants.Arrival.{Arrival}
use Rattle.cb_rank.specs.declared.wants.Arrival.TheVariants as arrival_is
use Rattle.cb_rank.specs.declared.wants.Moved.{Moved}
use Rattle.cb_rank.specs.declared.wants.Moved.TheVariants as moved_is
use Rattle.cb_rank.specs.declared.wants.Stray.{Stray}
use Rattle.cb_rank.specs.Halves.{slot_at, asks_memory, IsCopy, IsWork}
use Rattle.cb_rank.specs.Ranks.{RankView, IsRank, next_half, onward, IsAwaited, slots_with}

-- at a Post a rank hands out the half's tag and a copy of its slot
abbrev pub HandsOut : RankView → Option Half → Tag → Body Sparse → RankView → Type 0
HandsOut old (Some (half_is.Post to tag slot)) t body new =
    (t ≡ tag) × IsCopy old.me (slot_at old.slots slot) body old.refusals new.refusals × (new ≡ onward old old.slots new.refusals)
HandsOut old half t body new = ⊥

-- at a Work a rank does the operation
abbrev pub Works : Arithmetic → RankView → Option Half → RankView → Type 0
Works s old (Some (half_is.Work op)) new =
    (x : Slot Sparse) × IsWork s old.me op old.slots x old.refusals new.refusals × (new ≡ onward old (slice_set old.slots (target_of op) x) new.refusals)
Works s old half new = ⊥

-- a rank does this many operations, one after the other
abbrev pub WorksTimes : Arithmetic → ℕ → RankView → RankView → Type 0
WorksTimes s zero old new = new ≡ old
WorksTimes s (suc n) old new = (between : RankView) × IsRank between × Works s old (next_half old) between × WorksTimes s n between new

-- a rank does two operations or more, one after the other
abbrev pub WorksOn : Arithmetic → RankView → RankView → Type 0
WorksOn s old new = (n : ℕ) × (2 ≤ n) × WorksTimes s n old new

-- if the next half asks for memory, the rank counts one more refusal
abbrev pub CountsRefusal : RankView → RankView → Type 0
CountsRefusal old new = IfSome (next_half old) (λ h. asks_memory old.slots h ≡ true → new.refusals ≡ old.refusals + 1)

-- if the next half asks for memory, and this holds too, the rank counts one more refusal
abbrev pub CountsRefusalIf : Type 0 → RankView → RankView → Type 0
CountsRefusalIf moved old new =
    IfSome (next_half old) (λ h. asks_memory old.slots h ≡ true → moved → new.refusals ≡ old.refusals + 1)

abbrev pub Answer : Type 0
Answer = Result Moved (Stray Sparse)

-- a step waits, and nothing changes
abbrev pub Stays : Answer → RankView → RankView → Type 0
Stays answer old new = (answer ≡ Ok moved_is.Waiting) × (new ≡ old)

-- what a step answers once it has done a half
abbrev pub moved_by : Half → Moved
moved_by (half_is.Post to tag slot) = moved_is.Posted
moved_by (half_is.Take from tag into shape) = moved_is.Took
moved_by (half_is.Work op) = moved_is.Worked
moved_by (half_is.Shut to) = moved_is.Closed
moved_by (half_is.End from) = moved_is.Drained

-- what a step does with what has arrived for a half: it takes it if the half waits for it, and else returns it as a stray
abbrev pub Accepts : Half → Arrival Sparse → Answer → RankView → RankView → Type 0
Accepts half arrival answer old new =
    (IsAwaited (Some half) old.me arrival × (answer ≡ Ok (moved_by half)) × (new ≡ onward old (slots_with (Some half) arrival old.slots) old.refusals))
    ⊎ (¬ IsAwaited (Some half) old.me arrival × (answer ≡ Err (record { 0 = arrival })) × (new ≡ old))

-- what a step does with the answer to a take from a rank
abbrev pub TakesUp : Half → ℕ → Taken Sparse → Answer → RankView → RankView → Type 0
TakesUp half from (taken_is.Letter x) answer old new = Accepts half (arrival_is.Letter x) answer old new
TakesUp half from taken_is.End answer old new = Accepts half (arrival_is.End from) answer old new
TakesUp half from taken_is.Empty answer old new = Stays answer old new
TakesUp half from taken_is.Stranger answer old new = ⊥

-- a step of a rank takes its ports from p to q
module _ {Q : Type 0} where
  -- there is no room, and nothing changes
  abbrev pub IsHeldUp : (Q → ℕ → Type 0) → (Q → Q → Type 0) → ℕ → Answer → RankView → Q → RankView → Q → Type 0
  IsHeldUp may_be_full keeps to answer old p new q = Stays answer old new × keeps p q × may_be_full p to

  -- there was room, and this letter is posted
  abbrev pub IsSent : (Q → ℕ → Type 0) → (Q → Q → Type 0) → (Q → ℕ → Letter Sparse → Q → Type 0) → ℕ → Letter Sparse → Q → Q → Type 0
  IsSent has_room keeps posts to x p q = ((mid : Q) × keeps p mid × has_room mid to) × posts p to x q

  -- a step at a Post or a Shut
  abbrev pub StepPosts : (Q → ℕ → Standing) → (Q → ℕ → Type 0) → (Q → ℕ → Type 0) → (Q → Q → Type 0)
      → (Q → ℕ → Letter Sparse → Q → Type 0) → Option Half → Answer → RankView → Q → RankView → Q → Type 0
  StepPosts standing has_room may_be_full keeps posts (Some (half_is.Post to tag slot)) answer old p new q =
      IsHeldUp may_be_full keeps to answer old p new q
      ⊎ ((body : Body Sparse) × HandsOut old (Some (half_is.Post to tag slot)) tag body new × (answer ≡ Ok moved_is.Posted)
      × IsSent has_room keeps posts to (next_letter (standing p to) to tag body) p q)
  StepPosts standing has_room may_be_full keeps posts (Some (half_is.Shut to)) answer old p new q =
      IsHeldUp may_be_full keeps to answer old p new q
      ⊎ ((new ≡ onward old old.slots old.refusals) × (answer ≡ Ok moved_is.Closed)
      × IsSent has_room keeps posts to (next_letter (standing p to) to mark_tag body_is.Close) p q)
  StepPosts standing has_room may_be_full keeps posts half answer old p new q = Unit {0}

  -- a step at a Take or an End: one take, and what is done with its answer
  abbrev pub StepTakes : (Q → ℕ → Taken Sparse → Q → Type 0) → Option Half → Answer → RankView → Q → RankView → Q → Type 0
  StepTakes takes (Some (half_is.Take from tag into shape)) answer old p new q =
      (t : Taken Sparse) × takes p from t q × TakesUp (half_is.Take from tag into shape) from t answer old new
  StepTakes takes (Some (half_is.End from)) answer old p new q =
      (t : Taken Sparse) × takes p from t q × TakesUp (half_is.End from) from t answer old new
  StepTakes takes half answer old p new q = Unit {0}

  -- a step at a Work, and one at the end of the program
  abbrev pub StepWorks : Arithmetic → Option Half → Answer → RankView → Q → RankView → Q → Type 0
  StepWorks s (Some (half_is.Work op)) answer old p new q = Works s old (Some (half_is.Work op)) new × (answer ≡ Ok moved_is.Worked) × (q ≡ p)
  StepWorks s None answer old p new q = (answer ≡ Ok moved_is.Idle) × (new ≡ old) × (q ≡ p)
  StepWorks s half answer old p new q = Unit {0}
