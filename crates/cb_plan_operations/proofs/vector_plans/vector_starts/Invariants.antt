use Rattle.std.proofs.Common.{◌≡◌}
use Rattle.std.specs.List.{range_with_len, flat_map}
use Rattle.cb_plan_operations.specs.VectorPlans.{vector_starts_at}
use Rattle.cb_plan_operations.proofs.vector_plans.vector_starts.Given as goal

abbrev pub invariant-loop-rank : goal.invariant-loop-rank
invariant-loop-rank l = l.starts.items ≡ flat_map (vector_starts_at l.fn.grid.side l.fn.a) (range_with_len 0 l.rank)
