use Rattle.std.specs.List.{range_with_len, flat_map}
use Rattle.cb_plan_parts.specs.Growth.{Grew}
use Rattle.cb_plan_operations.specs.VectorPlans.{works}
use Rattle.cb_plan_operations.specs.ReductionPlans.{own_sums}
use Rattle.cb_plan_operations.proofs.reduction_plans.keep_own_sums.Given as goal

abbrev pub invariant-loop-rank : goal.invariant-loop-rank
invariant-loop-rank l = Grew (flat_map (λ r. works r (own_sums l.fn.grid.side l.fn.a r)) (range_with_len 0 l.rank)) l.fn.plan l.plan
