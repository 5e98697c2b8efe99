-- Lost blocks, as faults of a run.
use Rattle.std.proofs.Common.{◌≡◌, ℕ, List, subst}
use Rattle.cb_semirings.specs.Arithmetic.{Arithmetic}
use Rattle.cb_matrix.specs.Sparse.{Sparse}
use Rattle.cb_plan.specs.declared.plans.Planned.{Planned}
use Rattle.cb_plan.specs.declared.stores.Slot.{Slot}
use Rattle.cb_plan.specs.Plans.{CheckedView}
use Rattle.cb_plan_slots.specs.Slots.{HasOperands}
use Rattle.cb_rank_world.specs.declared.events.Event.{Event}
use Rattle.cb_rank_engines.specs.declared.engines.Engine.{Engine}
use Rattle.cb_rank_faults.specs.declared.RanksFault.{RanksFault}
use Rattle.cb_rank_faults.specs.declared.RanksFault.TheVariants.{Memory, NotStarted, Gone, TraceTorn, Lost}
use Rattle.cb_rank_engines.specs.EngineRuns.{IsLossFault, IsLostBlock, checked_of}
use Rattle.cb_rank_engines.specs.Orders.{IsLeftInOrder, IsOrdered, IsOrderedLoss, IsSteppedLoss}
use Rattle.cb_rank_engines.proofs.SteppedRuns.{of_its_order}

module _ (s : Arithmetic) (q : ℕ) (planned : Planned) (operands : List (ℕ × Sparse)) (first : List (List (Slot Sparse))) (has : HasOperands s q operands first) (p : CheckedView) (n : ℕ) (of_planned : p ≡ checked_of planned) (slot : n ≡ planned.result) (stores : List (List (Slot Sparse))) (refusals : List ℕ) where
  -- a loss of stepped ranks of the checked plan is one of ranks of the plan
  stepped_loss : (letters : ℕ) (order : List Event) → IsLeftInOrder s p first stores refusals letters order → (r count : ℕ) → IsLostBlock n stores refusals r count → IsSteppedLoss s q planned operands letters order r count
  stepped_loss letters order left r count lost = record {
    first = first;
    has = has;
    stores = stores;
    refusals = refusals;
    left = subst (λ (v : CheckedView). IsLeftInOrder s v first stores refusals letters order) of_planned left;
    lost = subst (λ k. IsLostBlock k stores refusals r count) slot lost;
  }

  -- a loss in a run of the checked plan is one in a run of the plan
  pub ordered_loss : (engine : Engine) → IsOrdered s engine p first stores refusals → (e : RanksFault) → IsLossFault n stores refusals e → IsOrderedLoss s engine q planned operands e
  ordered_loss engine left Memory h = tt
  ordered_loss engine left (NotStarted r) h = absurd h
  ordered_loss engine left (Gone r) h = absurd h
  ordered_loss engine left TraceTorn h = absurd h
  ordered_loss engine left (Lost r count) h =
      of_its_order engine (λ letters order. IsLeftInOrder s p first stores refusals letters order)
      (λ letters order. IsSteppedLoss s q planned operands letters order r count) (λ letters order is. stepped_loss letters order is r count h) left
