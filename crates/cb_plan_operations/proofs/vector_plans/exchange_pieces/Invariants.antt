use Rattle.std.specs.List.{range_with_len, flat_map}
use Rattle.cb_plan_parts.specs.Growth.{Grew}
use Rattle.cb_plan_operations.specs.VectorPlans.{exchange}
use Rattle.cb_plan_operations.proofs.vector_plans.exchange_pieces.Given as goal

abbrev pub invariant-loop-i : goal.invariant-loop-i
invariant-loop-i l = Grew (flat_map (exchange l.fn.grid.side) (range_with_len 0 l.i)) l.fn.plan l.plan
