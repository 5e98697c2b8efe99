use Rattle.std.proofs.Common.{◌≡◌, get_or}
use Rattle.std.specs.Prelude.{All}
use Rattle.cb_matrix.specs.Values.{product_shape}
use Rattle.cb_masked.specs.declared.places.TheConstants.{NONE}
use Rattle.cb_masked.specs.SomeColumns.{only_places}
use Rattle.cb_product.proofs.ColumnsMade.{IsMadeTo}
use Rattle.cb_masked.proofs.MaskedColumns.{left_of}
use Rattle.cb_masked.proofs.make_columns.Given as goal

abbrev pub invariant-loop-n : goal.invariant-loop-n
invariant-loop-n g l =
    let s = g.S.Semiring.arithmetic in
    record {
      made : IsMadeTo s (product_shape l.left l.right) (left_of s l.left l.right (only_places l.low l.high l.mask)) (get_or l.columns l.n l.right.shape.cols) l.out;
      cleared : All (λ x. x ≡ NONE) l.slots;
    }
