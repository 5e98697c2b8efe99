use Rattle.cb_product.proofs.ColumnStarts.{AreStartsSoFar}
use Rattle.cb_product.proofs.column_index.column_starts.Given as goal

abbrev pub invariant-loop-n : goal.invariant-loop-n
invariant-loop-n g l = AreStartsSoFar l.block l.columns l.n l.starts.items
