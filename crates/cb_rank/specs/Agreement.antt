-- How the slots and lanes of a running system agree with the meaning of its plan. How far each rank has come determines
-- them all, lost blocks aside.
use Rattle.std.specs.Prelude.{◌≡◌, ◌≢◌, ℕ, ◌+◌, ◌<◌, Bool, true, false, List, [], ◌∷◌, ◌++◌, length, Option, Some, None, IsSome}
use Rattle.cb_letters.specs.declared.Tag.{Tag}
use Rattle.cb_letters.specs.declared.Letter.{Letter}
use Rattle.cb_letters.specs.declared.Body.{Body}
use Rattle.cb_letters.specs.declared.Body.TheVariants as body_is
use Rattle.cb_letters.specs.Lane.{Lane, IsAddressed}
use Rattle.cb_plan.specs.declared.acts.Act.{Act}
use Rattle.cb_plan.specs.declared.stores.Slot.{Slot}
use Rattle.cb_plan.specs.declared.stores.Slot.TheVariants as slot_is
use Rattle.cb_plan.specs.Meaning.{Algebra, State, meaning}
use Rattle.cb_plan.specs.PlanLetters.{Cargo, Sheet, Mark, letters, before}

-- a slot agrees with what the plan means there: it is empty if that is, or holds it, or is lost, and then a rank was
-- refused memory
abbrev pub IsSlotOf : {M : Type 0} → (ℕ → ℕ) → Option M → Slot M → Type 0
IsSlotOf refusals wanted slot_is.Empty = wanted ≡ None
IsSlotOf refusals wanted (slot_is.Sheet m) = wanted ≡ Some m
IsSlotOf refusals wanted (slot_is.Lost origin) = IsSome wanted × (0 < refusals origin)

-- a letter's body agrees with what the plan sends
abbrev pub IsBodyOf : {M : Type 0} → (ℕ → ℕ) → Cargo M → Body M → Type 0
IsBodyOf refusals wanted (body_is.Sheet m) = wanted ≡ Sheet (Some m)
IsBodyOf refusals wanted (body_is.Lost origin) = ((m : _) × (wanted ≡ Sheet (Some m))) × (0 < refusals origin)
IsBodyOf refusals wanted body_is.Close = wanted ≡ Mark

-- letters from one rank to another, numbered from n on, are the plan's: by number, by tag, and, unless lost, by body
abbrev pub AreLettersOf : {M : Type 0} → (ℕ → ℕ) → ℕ → ℕ → ℕ → List (Tag × Cargo M) → List (Letter M) → Type 0
AreLettersOf refusals from to n [] [] = Unit {0}
AreLettersOf refusals from to n (w ∷ ws) (x ∷ xs) =
    IsAddressed from to n x × (x.tag ≡ w.0) × IsBodyOf refusals w.1 x.body × AreLettersOf refusals from to (n + 1) ws xs
AreLettersOf refusals from to n [] (x ∷ xs) = ⊥
AreLettersOf refusals from to n (w ∷ ws) [] = ⊥

-- whether the plan's letters end with the mark that ends the lane
abbrev pub ends_marked : {M : Type 0} → List (Tag × Cargo M) → Bool
ends_marked [] = false
ends_marked ((tag, Mark) ∷ []) = true
ends_marked ((tag, Sheet m) ∷ []) = false
ends_marked (w ∷ (v ∷ ws)) = ends_marked (v ∷ ws)

-- a running system: how many halves each rank has done, its slots, how often it was refused memory, and the lane from each
-- rank to each
pub record System (M : Type 0) : Type 0 where
  pub done : ℕ → ℕ
  pub slots : ℕ → ℕ → Slot M
  pub refusals : ℕ → ℕ
  pub lane : ℕ → ℕ → Lane M

-- a lane agrees with these letters of the plan, those that its sender has posted and those that its addressee has taken:
-- what is queued is the rest
pub record LaneAgrees {M : Type 0} (sent received : List (Tag × Cargo M)) (refusals : ℕ → ℕ) (from to : ℕ) (l : Lane M) : Type 0 where
  pub counted : l.taken ≡ length received
  pub marked : l.closed ≡ ends_marked sent
  pub waits : (waiting : List (Tag × Cargo M)) × (received ++ waiting ≡ sent) × AreLettersOf refusals from to l.taken waiting l.queue

-- each rank's slots agree with the acts before its next half. On each lane between two different ranks, the letters of the
-- acts before the sender's next half are posted, and those of the acts before the addressee's next half are taken
pub record Agrees {M : Type 0} (ops : Algebra M) (acts : List Act) (first : State M) (now : System M) : Type 0 where
  pub ranks : (r n : ℕ) → IsSlotOf now.refusals (meaning ops (before acts r (now.done r)) first r n) (now.slots r n)
  pub lanes : (s t : ℕ) → s ≢ t →
      LaneAgrees (letters ops (before acts s (now.done s)) first s t) (letters ops (before acts t (now.done t)) first s t) now.refusals s t (now.lane s t)
