use Rattle.std.proofs.Common.{◌+◌, ◌≤◌, length}
use Rattle.cb_product.proofs.column_index.likely_place.Given as goal

abbrev pub invariant-loop-size : goal.invariant-loop-size
invariant-loop-size l = l.place + l.size ≤ length l.columns

abbrev pub decreases-loop-size : goal.decreases-loop-size
decreases-loop-size l = l.size
