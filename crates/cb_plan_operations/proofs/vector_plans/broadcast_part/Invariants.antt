use Rattle.std.specs.List.{range_with_len, flat_map}
use Rattle.cb_plan_parts.specs.Growth.{Grew}
use Rattle.cb_plan_operations.specs.VectorPlans.{piece_broadcast}
use Rattle.cb_plan_operations.proofs.vector_plans.broadcast_part.Given as goal

abbrev pub invariant-loop-t : goal.invariant-loop-t
invariant-loop-t l = Grew (flat_map (piece_broadcast l.fn.grid.side l.fn.j) (range_with_len 0 l.t)) l.fn.plan l.plan
