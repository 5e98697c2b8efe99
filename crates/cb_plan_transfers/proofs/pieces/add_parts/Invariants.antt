use Rattle.std.proofs.Common.{◌+◌}
use Rattle.std.specs.List.{range_with_len, flat_map}
use Rattle.cb_plan_parts.specs.Growth.{Grew}
use Rattle.cb_plan_operations.specs.VectorPlans.{works}
use Rattle.cb_plan_transfers.specs.Rounds.{sums}
use Rattle.cb_plan_transfers.proofs.pieces.add_parts.Given as goal

abbrev pub invariant-loop-rank : goal.invariant-loop-rank
invariant-loop-rank l = Grew (flat_map (λ r. works r (sums (1 + l.fn.grid.side) l.fn.grid.side)) (range_with_len 0 l.rank)) l.fn.plan l.plan
