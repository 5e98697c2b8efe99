use Rattle.std.specs.List.{range_with_len, flat_map}
use Rattle.cb_plan_parts.specs.Growth.{Grew}
use Rattle.cb_plan_transfers.specs.Rounds.{row_exchange}
use Rattle.cb_plan_transfers.proofs.rounds.exchange_in_rows.Given as goal

abbrev pub invariant-loop-i : goal.invariant-loop-i
invariant-loop-i l = Grew (flat_map (row_exchange l.fn.grid.side l.fn.tag) (range_with_len 0 l.i)) l.fn.plan l.plan
