use Rattle.std.specs.List.{range_with_len, flat_map}
use Rattle.cb_plan_parts.specs.Growth.{Grew}
use Rattle.cb_plan_operations.specs.VectorPlans.{works}
use Rattle.cb_plan_transfers.specs.Rounds.{given_away}
use Rattle.cb_plan_transfers.proofs.pieces.cut_pieces.Given as goal

abbrev pub invariant-loop-rank : goal.invariant-loop-rank
invariant-loop-rank l = Grew (flat_map (λ r. works r (given_away l.fn.grid.side l.fn.shape)) (range_with_len 0 l.rank)) l.fn.plan l.plan
