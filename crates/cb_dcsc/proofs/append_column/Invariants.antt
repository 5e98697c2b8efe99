use Rattle.std.proofs.Common.{◌≡◌, ◌++◌, take}
use Rattle.cb_dcsc.specs.Compressed.{entries_in}
use Rattle.cb_dcsc.proofs.append_column.Given as goal

abbrev pub invariant-loop-n : goal.invariant-loop-n
invariant-loop-n l = l.entries.items ≡ l.fn.entries.items ++ entries_in l.column (take l.n l.rows) (take l.n l.values)
