use Rattle.std.proofs.Common.{◌+◌, ◌-◌, ◌*◌, ◌≤◌, map, length}
use Rattle.std.specs.List.{range_with_len}
use Rattle.cb_plan.specs.declared.acts.Act.TheVariants as act_is
use Rattle.cb_plan_parts.specs.PlanParts.{zero_op}
use Rattle.cb_plan_parts.specs.Growth.{Grew}
use Rattle.cb_plan_parts.proofs.works.zero_everywhere.Given as goal

-- the acts so far, and room for the others
abbrev pub invariant-loop-rank : goal.invariant-loop-rank
invariant-loop-rank l =
    Grew (map (λ r. act_is.Work r (zero_op l.fn.grid.side l.fn.slot l.fn.shape r)) (range_with_len 0 l.rank)) l.fn.plan l.plan
    × (length l.plan.acts + (l.fn.grid.side * l.fn.grid.side - l.rank) ≤ l.plan.room)
    × (length l.plan.acts + (l.fn.grid.side * l.fn.grid.side - l.rank) ≤ 4294967295)
