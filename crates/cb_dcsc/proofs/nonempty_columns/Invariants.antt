use Rattle.cb_dcsc.specs.Compressed.{AreNonempty}
use Rattle.cb_dcsc.proofs.nonempty_columns.Given as goal

abbrev pub invariant-loop-column : goal.invariant-loop-column
invariant-loop-column l = AreNonempty l.column l.all l.columns.items l.starts.items
