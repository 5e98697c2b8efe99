-- What ranks leave that are stepped in an order. Ranks in threads leave what ranks leave that are stepped in some order.
use Rattle.std.specs.Prelude.{◌≡◌, ℕ, ◌≤◌, ◌<◌, List, map}
use Rattle.cb_semirings.specs.Arithmetic.{Arithmetic}
use Rattle.cb_matrix.specs.Sparse.{Sparse, Extent}
use Rattle.cb_layout.specs.Distributed.{Distributed}
use Rattle.cb_plan.specs.declared.stores.Slot.{Slot}
use Rattle.cb_plan.specs.declared.plans.Planned.{Planned}
use Rattle.cb_plan.specs.Plans.{CheckedView}
use Rattle.cb_plan.specs.Stores.{state_of}
use Rattle.cb_plan_slots.specs.Slots.{HasOperands}
use Rattle.cb_plan_slots.specs.Answers.{IsGathered}
use Rattle.cb_rank_world.specs.declared.events.Event.{Event}
use Rattle.cb_rank_world.specs.Worlds.{WorldView, IsNewWorld, AllDone}
use Rattle.cb_rank_world.specs.WorldSteps.{RunsBy, FinishesBy}
use Rattle.cb_rank_engines.specs.EngineRuns.{IsLostBlock, checked_of}
use Rattle.cb_rank_faults.specs.declared.RanksFault.{RanksFault}
use Rattle.cb_rank_faults.specs.declared.RanksFault.TheVariants.{Lost}
use Rattle.cb_rank_engines.specs.declared.engines.Engine.{Engine}
use Rattle.cb_rank_engines.specs.declared.engines.Engine.TheVariants.{Threads, Traced, InOrder}
use Rattle.cb_rank_engines.specs.declared.engines.Outcome.{Outcome}

-- the number from 1 to 64 that is nearest to this one
pub record IsNearest (letters capacity : ℕ) : Type 0 where
  pub none : letters ≡ 0 → capacity ≡ 1
  pub within : 1 ≤ letters → letters ≤ 64 → capacity ≡ letters
  pub many : 64 < letters → capacity ≡ 64

-- A new world of this plan and these first stores, in which nothing is done, is stepped by exactly these events. Then its
-- least ready rank is stepped, again and again, until all are done. The stores and the counts of refusals are those of its
-- ranks at the end.
pub record IsLeftInOrder (s : Arithmetic) (p : CheckedView) (first stores : List (List (Slot Sparse)))
    (refusals : List ℕ) (letters : ℕ) (order : List Event) : Type 0 where
  pub capacity : ℕ
  pub nearest : IsNearest letters capacity
  pub begun : WorldView
  pub new : IsNewWorld p first capacity begun
  pub told : WorldView
  pub runs : RunsBy s order begun told
  pub rest : List Event
  pub last : WorldView
  pub finishes : FinishesBy s rest told last
  pub done : AllDone last
  pub slots : stores ≡ map (λ x. x.slots) last.ranks
  pub counts : refusals ≡ map (λ x. x.refusals) last.ranks

-- this holds of the engine's capacity and its order, or, if its ranks run in threads, of its capacity and some order
abbrev pub OfItsOrder : Engine → (ℕ → List Event → Type 0) → Type 0
OfItsOrder (InOrder letters order) holds = holds letters order.now
OfItsOrder (Threads letters) holds = (order : List Event) × holds letters order
OfItsOrder (Traced letters) holds = (order : List Event) × holds letters order

-- an engine leaves what ranks leave that are stepped in its order, or, if its ranks run in threads, in some order
abbrev pub IsOrdered : Arithmetic → Engine → CheckedView → List (List (Slot Sparse)) → List (List (Slot Sparse)) → List ℕ → Type 0
IsOrdered s engine p first stores refusals = OfItsOrder engine (λ letters order. IsLeftInOrder s p first stores refusals letters order)

-- The ranks of a plan begin with the blocks of these matrices in these slots, and are stepped in an order. The answer is the
-- matrix of this shape whose blocks their result slots hold at the end.
pub record IsSteppedRun (s : Arithmetic) (q : ℕ) (planned : Planned) (operands : List (ℕ × Sparse)) (shape : Extent)
    (letters : ℕ) (order : List Event) (answer : Distributed) (refusals : List ℕ) : Type 0 where
  pub first : List (List (Slot Sparse))
  pub has : HasOperands s q operands first
  pub stores : List (List (Slot Sparse))
  pub left : IsLeftInOrder s (checked_of planned) first stores refusals letters order
  pub held : IsGathered s q shape planned.result (state_of stores) answer

-- an engine returns what ranks make that are stepped in its order, or, if its ranks run in threads, in some order
abbrev pub IsOrderedRun : Arithmetic → Engine → ℕ → Planned → List (ℕ × Sparse) → Extent → Distributed → List ℕ → Type 0
IsOrderedRun s engine q planned operands shape answer refusals =
    OfItsOrder engine (λ letters order. IsSteppedRun s q planned operands shape letters order answer refusals)

-- this outcome has such an answer, and such counts of refusals
abbrev pub IsOrderedOutcome : {S : Type 0} → Arithmetic → Engine → ℕ → Planned → List (ℕ × Sparse) → Extent → Outcome S → Type 0
IsOrderedOutcome s engine q planned operands shape done = IsOrderedRun s engine q planned operands shape done.answer done.refusals.items

-- The ranks of a plan begin with the blocks of these matrices in these slots, and are stepped in an order. Then a block of
-- the answer is lost, at rank r, which was refused memory `count` times.
pub record IsSteppedLoss (s : Arithmetic) (q : ℕ) (planned : Planned) (operands : List (ℕ × Sparse))
    (letters : ℕ) (order : List Event) (r count : ℕ) : Type 0 where
  pub first : List (List (Slot Sparse))
  pub has : HasOperands s q operands first
  pub stores : List (List (Slot Sparse))
  pub refusals : List ℕ
  pub left : IsLeftInOrder s (checked_of planned) first stores refusals letters order
  pub lost : IsLostBlock planned.result stores refusals r count

-- if a block is lost, ranks lose it that are stepped in the engine's order, or, if its ranks run in threads, in some order
abbrev pub IsOrderedLoss : Arithmetic → Engine → ℕ → Planned → List (ℕ × Sparse) → RanksFault → Type 0
IsOrderedLoss s engine q planned operands (Lost r count) = OfItsOrder engine (λ letters order. IsSteppedLoss s q planned operands letters order r count)
IsOrderedLoss s engine q planned operands _ = Unit {0}
