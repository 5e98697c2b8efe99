-- A plan, and a checked plan, as contracts see them.
use Rattle.std.specs.Prelude.{◌≡◌, ◌≢◌, ℕ, ◌+◌, ◌<◌, ◌≤◌, ◌⊎◌, Bool, if◌then◌else◌, List, ◌++◌, length, All, AllPairs, None}
use Rattle.cb_plan.specs.declared.acts.Act.{Act}
use Rattle.cb_plan.specs.declared.acts.Start.{Start}
use Rattle.cb_plan.specs.declared.plans.PlanFault.{PlanFault}
use Rattle.cb_plan.specs.declared.plans.PlanFaultKind.TheVariants as kind_is
use Rattle.cb_plan.specs.declared.plans.TheConstants.{MOST_ACTS}
use Rattle.cb_plan.specs.declared.stores.TheConstants.{SLOTS}
use Rattle.cb_plan.specs.Checks.{plan_fault}
use Rattle.cb_plan.specs.Closings.{shut_acts}

pub record PlanView : Type 0 where
  pub ranks : ℕ
  pub acts : List Act
  -- how many acts fit without more memory
  pub room : ℕ

-- how many acts fit into the memory for stored acts: none after those of a plan that closes
abbrev pub room_in : ℕ → List Act → Bool → ℕ → ℕ
room_in ranks stored closes capacity = if closes then length (stored ++ shut_acts ranks) else capacity

-- the fault of a plan that can't have more acts
abbrev pub too_long : PlanView → PlanFault
too_long plan = record { act = length plan.acts; kind = kind_is.TooLong }

-- the fault that memory was refused
abbrev pub no_memory : PlanFault
no_memory = record { act = 0; kind = kind_is.Memory }

-- with these acts added the plan is too long
abbrev pub IsTooLong : PlanView → List Act → Type 0
IsTooLong plan acts = MOST_ACTS < length plan.acts + length acts

-- why acts are refused: the plan would be too long, or else memory was refused
abbrev pub IsRefusal : PlanView → List Act → PlanFault → Type 0
IsRefusal plan acts fault = (IsTooLong plan acts × (fault ≡ too_long plan)) ⊎ (fault ≡ no_memory)

pub record CheckedView : Type 0 where
  pub ranks : ℕ
  -- the slots that are filled before the first act
  pub starts : List Start
  pub acts : List Act

-- two starts name different slots
abbrev pub IsElsewhere : Start → Start → Type 0
IsElsewhere a b = (a.rank ≢ b.rank) ⊎ (a.slot ≢ b.slot)

-- the plan has no fault, and the starts name slots that exist, each once
pub record IsChecked (p : CheckedView) : Type 0 where
  pub no_fault : plan_fault p.ranks p.starts p.acts ≡ None
  pub few : length p.acts ≤ MOST_ACTS
  pub exist : All (λ s. (s.rank < p.ranks) × (s.slot < SLOTS)) p.starts
  pub once : AllPairs IsElsewhere p.starts
