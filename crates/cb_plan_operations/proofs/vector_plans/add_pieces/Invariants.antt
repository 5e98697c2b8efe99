use Rattle.std.specs.List.{range_with_len, flat_map}
use Rattle.cb_plan_parts.specs.Growth.{Grew}
use Rattle.cb_plan_operations.specs.VectorPlans.{works, add_piece}
use Rattle.cb_plan_operations.proofs.vector_plans.add_pieces.Given as goal

abbrev pub invariant-loop-t : goal.invariant-loop-t
invariant-loop-t l = Grew (flat_map (λ t. works l.fn.rank (add_piece l.fn.grid.side l.fn.part t)) (range_with_len 0 l.t)) l.fn.plan l.plan
