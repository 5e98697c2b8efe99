use Rattle.std.proofs.Common.{◌+◌, ◌-◌, ◌≤◌, take, length}
use Rattle.cb_plan_parts.specs.Growth.{Grew}
use Rattle.cb_plan_operations.specs.VectorPlans.{works}
use Rattle.cb_plan_operations.proofs.vector_plans.work.Given as goal

abbrev pub invariant-loop-op : goal.invariant-loop-op
invariant-loop-op l = Grew (works l.fn.rank (take l.op-index l.ops)) l.fn.plan l.plan
    × (length l.plan.acts + (length l.ops - l.op-index) ≤ l.plan.room)
    × (length l.plan.acts + (length l.ops - l.op-index) ≤ 4294967295)
