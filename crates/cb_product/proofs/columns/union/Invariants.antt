use Rattle.std.proofs.Common.{◌+◌, ◌-◌, length}
use Rattle.cb_product.proofs.Union.{IsUnionSoFar}
use Rattle.cb_product.proofs.columns.union.Given as goal

abbrev pub invariant-loop-x : goal.invariant-loop-x
invariant-loop-x l = IsUnionSoFar l.left l.right l.columns.items l.x l.y

abbrev pub decreases-loop-x : goal.decreases-loop-x
decreases-loop-x l = (length l.left - l.x) + (length l.right - l.y)
