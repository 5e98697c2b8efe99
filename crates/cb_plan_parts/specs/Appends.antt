-- How a plan grows, and why acts are refused.
use Rattle.std.specs.Prelude.{◌≡◌, ◌+◌, ◌≤◌, List, ◌++◌, length}
use Rattle.cb_plan.specs.declared.acts.Act.{Act}
use Rattle.cb_plan.specs.declared.plans.TheConstants.{MOST_ACTS}
use Rattle.cb_plan.specs.Plans.{PlanView}
pub use Rattle.cb_plan.specs.Plans.{too_long, no_memory, IsTooLong, IsRefusal}

-- with these acts added the plan isn't too long
abbrev pub IsWithinLimit : PlanView → List Act → Type 0
IsWithinLimit plan acts = length plan.acts + length acts ≤ MOST_ACTS

-- the plan has room for the acts
pub record HasRoom (plan : PlanView) (acts : List Act) : Type 0 where
  pub memory : length plan.acts + length acts ≤ plan.room
  pub limit : IsWithinLimit plan acts

-- these acts are appended to the plan
pub record Grew (acts : List Act) (old new : PlanView) : Type 0 where
  pub ranks_are : new.ranks ≡ old.ranks
  pub acts_are : new.acts ≡ old.acts ++ acts

-- these acts are appended to the plan, and its room doesn't shrink
pub record Appended (acts : List Act) (old new : PlanView) : Type 0 where
  pub grew : Grew acts old new
  pub room : old.room ≤ new.room
