-- A plan that runs: what is left of it has no fault, and completes the meaning of the whole.
use Rattle.std.specs.Prelude.{◌≡◌, ℕ, List, None, drop}
use Rattle.cb_semirings.specs.Arithmetic.{Arithmetic}
use Rattle.cb_matrix.specs.Sparse.{Sparse}
use Rattle.cb_plan.specs.declared.acts.Act.{Act}
use Rattle.cb_plan.specs.declared.stores.Slot.{Slot}
use Rattle.cb_plan.specs.declared.stores.TheConstants.{SLOTS}
use Rattle.cb_plan.specs.Meaning.{meaning}
use Rattle.cb_plan.specs.Algebras.{matrices}
use Rattle.cb_plan.specs.Checks.{Lanes, fault_from}
use Rattle.cb_plan.specs.Stores.{state_of, shapes_of, NoneLost}
use Rattle.cb_plan.specs.PlanTables.{IsTable}

-- after the first i acts
pub record Runs (s : Arithmetic) (ranks : ℕ) (acts : List Act) (i : ℕ) (first now : List (List (Slot Sparse))) : Type 0 where
  pub table : IsTable ranks SLOTS now
  pub none_lost : NoneLost now
  pub shut : Lanes
  pub no_fault : fault_from ranks i (shapes_of now) shut (drop i acts) ≡ None
  pub means : meaning (matrices s) (drop i acts) (state_of now) ≡ meaning (matrices s) acts (state_of first)
