use Rattle.std.specs.List.{range_with_len, flat_map}
use Rattle.cb_plan_summa.specs.Summa.{products}
use Rattle.cb_plan_parts.specs.Growth.{Grew}
use Rattle.cb_plan_summa.proofs.products.multiply_all.Given as goal

abbrev pub invariant-loop-k : goal.invariant-loop-k
invariant-loop-k l = Grew (flat_map (products l.fn.grid.side) (range_with_len 0 l.k)) l.fn.plan l.plan
