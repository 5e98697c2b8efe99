use Rattle.std.proofs.Common.{get_or}
use Rattle.cb_matrix.specs.Values.{product_shape}
use Rattle.cb_product.specs.ColumnStarts.{Tells}
use Rattle.cb_product.proofs.ColumnsMade.{IsMadeTo}
use Rattle.cb_masked.specs.SomeColumns.{only_places}
use Rattle.cb_masked.proofs.OutsideColumns.{left_outside_of}
use Rattle.cb_masked.proofs.outside.make_outside.Given as goal

abbrev pub invariant-loop-n : goal.invariant-loop-n
invariant-loop-n g l =
    let s = g.S.Semiring.arithmetic in
    record {
      made : IsMadeTo s (product_shape l.left l.right) (left_outside_of s l.left (only_places l.low l.high l.right) l.mask) (get_or l.columns l.n l.right.shape.cols) l.out;
      told : Tells l.index l.left;
    }
