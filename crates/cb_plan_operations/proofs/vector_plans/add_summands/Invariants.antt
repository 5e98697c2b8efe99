use Rattle.std.specs.List.{range_with_len, flat_map}
use Rattle.cb_plan_parts.specs.Growth.{Grew}
use Rattle.cb_plan_operations.specs.VectorPlans.{works, sum_ops}
use Rattle.cb_plan_operations.proofs.vector_plans.add_summands.Given as goal

abbrev pub invariant-loop-rank : goal.invariant-loop-rank
invariant-loop-rank l = Grew (flat_map (λ r. works r (sum_ops l.fn.grid.side)) (range_with_len 0 l.rank)) l.fn.plan l.plan
