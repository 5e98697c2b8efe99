-- A run of a checked plan makes what the plan makes.
use Rattle.std.proofs.Common.{◌≡◌, ℕ, List, sym, ap, subst, ◌∙◌}
use Rattle.cb_semirings.specs.Arithmetic.{Arithmetic, IsSemiring}
use Rattle.cb_matrix.specs.Sparse.{Sparse, Extent}
use Rattle.cb_layout.specs.Distributed.{Distributed}
use Rattle.cb_plan.specs.declared.plans.Planned.{Planned}
use Rattle.cb_plan.specs.declared.stores.Slot.{Slot}
use Rattle.cb_plan.specs.Algebras.{matrices}
use Rattle.cb_plan.specs.Meaning.{State, meaning}
use Rattle.cb_plan.specs.Plans.{CheckedView}
use Rattle.cb_plan.specs.Stores.{state_of, Fits}
use Rattle.cb_plan_slots.specs.Slots.{HasOperands}
use Rattle.cb_plan_slots.specs.Answers.{HasShapes, Makes, gathered, over_grid}
use Rattle.cb_plan_slots.specs.Losses.{LostOrMeans}
use Rattle.cb_plan_slots.proofs.MadeMatrices.{made_fits, made_shapes, made_answer}
use Rattle.cb_rank_engines.specs.EngineRuns.{checked_of}

module _ (s : Arithmetic) (q : ℕ) (operands : List (ℕ × Sparse)) (planned : Planned) (shape : Extent) (answer : Sparse) (makes : Makes s q operands planned shape answer) (first : List (List (Slot Sparse))) (has : HasOperands s q operands first) (p : CheckedView) (n : ℕ) (of_planned : p ≡ checked_of planned) (slot : n ≡ planned.result) where
  pub left_fits : Fits p.ranks p.starts first
  left_fits = subst (λ (v : CheckedView). Fits v.ranks v.starts first) (sym of_planned) (made_fits s q operands planned shape answer makes first has)

  pub left_shapes : HasShapes q shape n (meaning (matrices s) p.acts (state_of first))
  left_shapes =
      subst (λ k. HasShapes q shape k (meaning (matrices s) p.acts (state_of first))) (sym slot)
      (subst (λ (v : CheckedView). HasShapes q shape planned.result (meaning (matrices s) v.acts (state_of first))) (sym of_planned) (made_shapes s q operands planned shape answer makes first has))

  pub left_answer : IsSemiring s → (after : List (List (Slot Sparse))) → LostOrMeans (meaning (matrices s) p.acts (state_of first)) after → (m : Distributed) → ((meant : State Sparse) → LostOrMeans meant after → m ≡ over_grid q (gathered s q shape n meant)) → m ≡ over_grid q answer
  left_answer laws after left m is =
      is (meaning (matrices s) p.acts (state_of first)) left
      ∙ (λ t. over_grid q (gathered s q shape (slot t) (meaning (matrices s) (of_planned t).acts (state_of first))))
      ∙ ap (over_grid q) (made_answer s q operands planned shape answer makes first has laws)
