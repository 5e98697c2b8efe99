-- What a plan makes of the matrices whose blocks are in slots of the ranks.
use Rattle.std.proofs.Common.{◌≡◌, ℕ, List, sym, subst}
use Rattle.cb_semirings.specs.Arithmetic.{Arithmetic, IsSemiring}
use Rattle.cb_matrix.specs.Sparse.{Sparse, Extent}
use Rattle.cb_plan.specs.declared.plans.Planned.{Planned}
use Rattle.cb_plan.specs.declared.stores.Slot.{Slot}
use Rattle.cb_plan.specs.Algebras.{matrices}
use Rattle.cb_plan.specs.Meaning.{meaning}
use Rattle.cb_plan.specs.Stores.{state_of, Fits}
use Rattle.cb_plan_parts.specs.PlanParts.{HasParts}
use Rattle.cb_plan_slots.specs.Slots.{HasOperands}
use Rattle.cb_plan_slots.specs.Answers.{HasShapes, Makes, gathered}
use Rattle.cb_plan_slots.proofs.Holdings.{operands_fit}
use Rattle.cb_plan_slots.proofs.GatheredParts.{shapes_of_parts, gathered_parts}

-- what the acts leave in slot n, which is the plan's slot for the answer
pub in_slot : (s : Arithmetic) (q : ℕ) (operands : List (ℕ × Sparse)) (planned : Planned) (m : Sparse) (n : ℕ) → planned.result ≡ n →
    ((stores : List (List (Slot Sparse))) → HasOperands s q operands stores → HasParts s q m n (meaning (matrices s) planned.plan.acts (state_of stores))) →
    (stores : List (List (Slot Sparse))) → HasOperands s q operands stores → HasParts s q m planned.result (meaning (matrices s) planned.plan.acts (state_of stores))
in_slot s q operands planned m n slot h stores has =
    subst (λ k. HasParts s q m k (meaning (matrices s) planned.plan.acts (state_of stores))) (sym slot) (h stores has)

-- the stores fit the plan; the blocks that it leaves have the shapes of the answer's, and gathered they are the answer
module _ (s : Arithmetic) (q : ℕ) (operands : List (ℕ × Sparse)) (planned : Planned) (shape : Extent) (answer : Sparse) (makes : Makes s q operands planned shape answer) (stores : List (List (Slot Sparse))) (has : HasOperands s q operands stores) where
  -- the stores with the operands fit the plan
  pub made_fits : Fits planned.plan.ranks planned.starts.items stores
  made_fits = rw (makes.ranks, makes.starts) (operands_fit s q operands stores has)

  -- the blocks that the plan leaves have the shapes of the answer's parts
  pub made_shapes : HasShapes q shape planned.result (meaning (matrices s) planned.plan.acts (state_of stores))
  made_shapes =
      subst (λ (d : Extent). HasShapes q d planned.result (meaning (matrices s) planned.plan.acts (state_of stores))) makes.shaped
      (shapes_of_parts s q answer planned.result (meaning (matrices s) planned.plan.acts (state_of stores)) (makes.parts stores has))

  -- gathered, they are the answer
  pub made_answer : IsSemiring s → gathered s q shape planned.result (meaning (matrices s) planned.plan.acts (state_of stores)) ≡ answer
  made_answer laws =
      subst (λ (d : Extent). gathered s q d planned.result (meaning (matrices s) planned.plan.acts (state_of stores)) ≡ answer) makes.shaped
      (gathered_parts s q answer planned.result (meaning (matrices s) planned.plan.acts (state_of stores)) (makes.parts stores has) laws has.some makes.matrix)
