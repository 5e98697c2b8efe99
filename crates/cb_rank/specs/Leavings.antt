-- What the ranks of a plan leave once all have done their programs.
use Rattle.std.specs.Prelude.{◌≡◌, ℕ, List, length, get_or, sum}
use Rattle.cb_semirings.specs.Arithmetic.{Arithmetic}
use Rattle.cb_matrix.specs.Sparse.{Sparse}
use Rattle.cb_plan.specs.declared.stores.Slot.{Slot}
use Rattle.cb_plan.specs.declared.stores.Slot.TheVariants as slot_is
use Rattle.cb_plan.specs.declared.stores.TheConstants.{SLOTS}
use Rattle.cb_plan.specs.Algebras.{matrices}
use Rattle.cb_plan.specs.Meaning.{meaning}
use Rattle.cb_plan.specs.Plans.{CheckedView}
use Rattle.cb_plan.specs.Stores.{state_of, NoneLost}
use Rattle.cb_plan.specs.PlanTables.{cell, IsTable}
use Rattle.cb_rank.specs.Agreement.{IsSlotOf}

-- the stores of the ranks, and how often each was refused memory, hold what the plan means for these first stores
pub record HoldsMeaning (s : Arithmetic) (p : CheckedView) (first stores : List (List (Slot Sparse))) (refusals : List ℕ) : Type 0 where
  -- a store of 256 slots for each rank, and a count of refusals
  pub table : IsTable p.ranks SLOTS stores
  pub counts : length refusals ≡ p.ranks
  -- a slot holds what the plan means there, or is lost, and then its origin was refused memory
  pub slots : (r n : ℕ) → IsSlotOf (λ k. get_or refusals k 0) (meaning (matrices s) p.acts (state_of first) r n) (cell slot_is.Empty stores r n)
  -- if no rank was refused memory, nothing is lost, and the stores hold exactly what the plan means
  pub whole : sum refusals ≡ 0 → (state_of stores ≡ meaning (matrices s) p.acts (state_of first)) × NoneLost stores
