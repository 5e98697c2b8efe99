use Rattle.std.proofs.Common.{◌+◌, ◌-◌, ◌*◌, ◌≤◌, map, length}
use Rattle.std.specs.List.{range_with_len}
use Rattle.cb_plan_parts.specs.Collectives.{sent}
use Rattle.cb_plan_parts.specs.PlanParts.{tagged}
use Rattle.cb_plan_parts.specs.Growth.{Grew}
use Rattle.cb_plan_operations.specs.GridPlans.{mirrored}
use Rattle.cb_plan_operations.proofs.transposes.send_across.Given as goal

-- the acts so far, and room for the others
abbrev pub invariant-loop-rank : goal.invariant-loop-rank
invariant-loop-rank l =
    Grew (map (λ r. sent r (mirrored l.fn.grid.side r) (tagged 0) 1 2) (range_with_len 0 l.rank)) l.fn.plan l.plan
    × (length l.plan.acts + (l.fn.grid.side * l.fn.grid.side - l.rank) ≤ l.plan.room)
    × (length l.plan.acts + (l.fn.grid.side * l.fn.grid.side - l.rank) ≤ 4294967295)
