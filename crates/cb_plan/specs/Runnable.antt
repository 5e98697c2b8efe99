-- A plan that can run as it is.
use Rattle.std.specs.Prelude.{◌≡◌, ◌<◌, All, AllPairs, None}
use Rattle.cb_plan.specs.declared.plans.Planned.{Planned}
use Rattle.cb_plan.specs.declared.stores.TheConstants.{SLOTS}
use Rattle.cb_plan.specs.Checks.{plan_fault}
use Rattle.cb_plan.specs.Plans.{IsElsewhere}

-- the starts name slots that exist, each once; there is no fault; and the slot of the result exists
pub record IsRunnable (p : Planned) : Type 0 where
  pub exist : All (λ s. (s.rank < p.plan.ranks) × (s.slot < SLOTS)) p.starts.items
  pub once : AllPairs IsElsewhere p.starts.items
  pub no_fault : plan_fault p.plan.ranks p.starts.items p.plan.acts ≡ None
  pub result : p.result < SLOTS
