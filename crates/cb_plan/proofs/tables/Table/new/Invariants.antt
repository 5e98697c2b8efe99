use Rattle.std.proofs.Common.{◌≡◌, replicate}
use Rattle.cb_plan.proofs.tables.Table.new.Given as goal

abbrev pub invariant-loop : goal.invariant-loop
invariant-loop g l = l.table.items ≡ replicate l.counter (replicate l.cols l.blank)
