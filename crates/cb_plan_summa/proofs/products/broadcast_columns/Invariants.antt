use Rattle.std.specs.List.{range_with_len, flat_map}
use Rattle.cb_plan_summa.specs.Summa.{column_broadcast}
use Rattle.cb_plan_parts.specs.Growth.{Grew}
use Rattle.cb_plan_summa.proofs.products.broadcast_columns.Given as goal

abbrev pub invariant-loop-j : goal.invariant-loop-j
invariant-loop-j l = Grew (flat_map (column_broadcast l.fn.grid.side l.fn.k) (range_with_len 0 l.j)) l.fn.plan l.plan
