use Rattle.std.specs.List.{range_with_len, flat_map}
use Rattle.cb_plan_parts.specs.Growth.{Grew}
use Rattle.cb_plan_transfers.specs.Rounds.{column_exchange}
use Rattle.cb_plan_transfers.proofs.rounds.exchange_in_columns.Given as goal

abbrev pub invariant-loop-j : goal.invariant-loop-j
invariant-loop-j l = Grew (flat_map (column_exchange l.fn.grid.side l.fn.tag) (range_with_len 0 l.j)) l.fn.plan l.plan
