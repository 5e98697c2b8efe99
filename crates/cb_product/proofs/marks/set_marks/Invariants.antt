use Rattle.std.proofs.Common.{cond}
use Rattle.cb_product.proofs.MarkedRows.{AreSetSoFar}
use Rattle.cb_product.proofs.marks.set_marks.Given as goal

abbrev pub invariant-loop-n : goal.invariant-loop-n
invariant-loop-n l = AreSetSoFar l.rows (cond l.marked 1 0) l.n l.fn.words l.words
