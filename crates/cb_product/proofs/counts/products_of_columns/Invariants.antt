use Rattle.cb_product.specs.ColumnStarts.{Tells}
use Rattle.cb_product.proofs.counts.products_of_columns.Given as goal

abbrev pub invariant-loop-n : goal.invariant-loop-n
invariant-loop-n g l = Tells l.index l.left
