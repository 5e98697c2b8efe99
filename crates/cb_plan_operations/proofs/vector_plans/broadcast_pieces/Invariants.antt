use Rattle.std.specs.List.{range_with_len, flat_map}
use Rattle.cb_plan_parts.specs.Growth.{Grew}
use Rattle.cb_plan_operations.specs.VectorPlans.{part_broadcasts}
use Rattle.cb_plan_operations.proofs.vector_plans.broadcast_pieces.Given as goal

abbrev pub invariant-loop-j : goal.invariant-loop-j
invariant-loop-j l = Grew (flat_map (part_broadcasts l.fn.grid.side) (range_with_len 0 l.j)) l.fn.plan l.plan
