use Rattle.std.proofs.Common.{◌≡◌}
use Rattle.std.specs.List.{range_with_len, flat_map}
use Rattle.cb_plan_parts.specs.PlanParts.{starts_at}
use Rattle.cb_plan_parts.proofs.first_slots.operand_starts.Given as goal

abbrev pub invariant-loop-rank : goal.invariant-loop-rank
invariant-loop-rank l = l.starts.items ≡ flat_map (starts_at l.fn.grid.side l.fn.operands) (range_with_len 0 l.rank)
