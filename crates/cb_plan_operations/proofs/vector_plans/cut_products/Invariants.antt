use Rattle.std.specs.List.{range_with_len, flat_map}
use Rattle.cb_plan_parts.specs.Growth.{Grew}
use Rattle.cb_plan_operations.specs.VectorPlans.{works, cuts_at}
use Rattle.cb_plan_operations.proofs.vector_plans.cut_products.Given as goal

abbrev pub invariant-loop-rank : goal.invariant-loop-rank
invariant-loop-rank l = Grew (flat_map (λ r. works r (cuts_at l.fn.grid.side l.fn.a r)) (range_with_len 0 l.rank)) l.fn.plan l.plan
