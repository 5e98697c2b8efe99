-- What ranks hold at the end that were stepped in an order, gathered.
use Rattle.std.proofs.Common.{◌≡◌, ℕ, List, subst, ◌∙◌}
use Rattle.cb_semirings.specs.Arithmetic.{Arithmetic}
use Rattle.cb_matrix.specs.Sparse.{Sparse, Extent}
use Rattle.cb_layout.specs.Distributed.{Distributed}
use Rattle.cb_plan.specs.declared.plans.Planned.{Planned}
use Rattle.cb_plan.specs.declared.stores.Slot.{Slot}
use Rattle.cb_plan.specs.Plans.{CheckedView}
use Rattle.cb_plan.specs.Stores.{state_of}
use Rattle.cb_plan_slots.specs.Slots.{HasOperands}
use Rattle.cb_plan_slots.specs.Answers.{gathered, over_grid}
use Rattle.cb_rank_world.specs.declared.events.Event.{Event}
use Rattle.cb_rank_engines.specs.declared.engines.Engine.{Engine}
use Rattle.cb_rank_engines.specs.declared.engines.Engine.TheVariants.{Threads, Traced, InOrder}
use Rattle.cb_rank_engines.specs.EngineRuns.{checked_of}
use Rattle.cb_rank_engines.specs.Orders.{IsLeftInOrder, IsOrdered, IsSteppedRun, IsOrderedRun, OfItsOrder}

-- if something of an order implies another thing of it, it does so of the engine's order
pub of_its_order : (engine : Engine) (this that : ℕ → List Event → Type 0) → ((letters : ℕ) (order : List Event) → this letters order → that letters order) → OfItsOrder engine this → OfItsOrder engine that
of_its_order (Threads letters) this that so holds = (holds.0, so letters holds.0 holds.1)
of_its_order (Traced letters) this that so holds = (holds.0, so letters holds.0 holds.1)
of_its_order (InOrder letters order) this that so holds = so letters order.now holds

module _ (s : Arithmetic) (q : ℕ) (planned : Planned) (operands : List (ℕ × Sparse)) (shape : Extent) (first : List (List (Slot Sparse))) (has : HasOperands s q operands first) (p : CheckedView) (n : ℕ) (of_planned : p ≡ checked_of planned) (slot : n ≡ planned.result) (stores : List (List (Slot Sparse))) (refusals : List ℕ) (answer : Distributed) (held : answer ≡ over_grid q (gathered s q shape n (state_of stores))) where
  -- what stepped ranks of the checked plan make is what ranks of the plan make
  stepped_run : (letters : ℕ) (order : List Event) → IsLeftInOrder s p first stores refusals letters order → IsSteppedRun s q planned operands shape letters order answer refusals
  stepped_run letters order left = record {
    first = first;
    has = has;
    stores = stores;
    left = subst (λ (v : CheckedView). IsLeftInOrder s v first stores refusals letters order) of_planned left;
    held = held ∙ (λ t. over_grid q (gathered s q shape (slot t) (state_of stores)));
  }

  -- a run of the checked plan is one of the plan
  pub ordered_run : (engine : Engine) → IsOrdered s engine p first stores refusals → IsOrderedRun s engine q planned operands shape answer refusals
  ordered_run engine left =
      of_its_order engine (λ letters order. IsLeftInOrder s p first stores refusals letters order)
      (λ letters order. IsSteppedRun s q planned operands shape letters order answer refusals) stepped_run left
