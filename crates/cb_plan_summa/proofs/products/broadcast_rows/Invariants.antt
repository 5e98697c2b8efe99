use Rattle.std.specs.List.{range_with_len, flat_map}
use Rattle.cb_plan_summa.specs.Summa.{row_broadcast}
use Rattle.cb_plan_parts.specs.Growth.{Grew}
use Rattle.cb_plan_summa.proofs.products.broadcast_rows.Given as goal

abbrev pub invariant-loop-i : goal.invariant-loop-i
invariant-loop-i l = Grew (flat_map (row_broadcast l.fn.grid.side l.fn.k) (range_with_len 0 l.i)) l.fn.plan l.plan
