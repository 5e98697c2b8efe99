use Rattle.std.proofs.Common.{◌-◌, length}
use Rattle.cb_product.specs.Outside.{ArePassed}
use Rattle.cb_product.proofs.columns.is_next.Given as goal

abbrev pub invariant-loop-next : goal.invariant-loop-next
invariant-loop-next l = ArePassed l.rows l.next l.row

abbrev pub decreases-loop-next : goal.decreases-loop-next
decreases-loop-next l = length l.rows - l.next
