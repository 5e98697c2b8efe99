-- Acts in the middle of a plan.
use Rattle.std.specs.Prelude.{◌≡◌, ℕ, ◌*◌, List}
use Rattle.cb_matrix.specs.Sparse.{Extent}
use Rattle.cb_plan.specs.declared.acts.Act.{Act}
use Rattle.cb_plan.specs.Meaning.{State}
use Rattle.cb_plan.specs.Checks.{Lanes, Passes, lanes_after, started, none_shut}
use Rattle.cb_plan_parts.specs.declared.first_slots.Operand.{Operand}
use Rattle.cb_plan_parts.specs.PlanParts.{operand_starts}

-- acts pass the check and shut no lane, if the blocks before them have these shapes and these lanes are shut
pub record Flows (ranks : ℕ) (shut : Lanes) (state : State Extent) (acts : List Act) : Type 0 where
  pub passes : Passes ranks state shut acts
  pub lanes : lanes_after acts shut ≡ shut

-- acts flow at the start of a plan on a grid of side q, from these operands, with every lane open
abbrev pub FlowsFrom : ℕ → List Operand → List Act → Type 0
FlowsFrom q operands acts = Flows (q * q) none_shut (started (operand_starts q operands)) acts
