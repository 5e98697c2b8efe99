use Rattle.std.proofs.Common.{◌≡◌, ap, ◌∙◌}
use Rattle.cb_matrix.specs.Values.{empty_matrix, product_shape}
use Rattle.cb_product.specs.InColumns.{only_columns}
use Rattle.cb_product.proofs.OnlyColumns.{only_matrix}
use Rattle.cb_product.proofs.ProductColumns.{multiplied}
use Rattle.cb_product.proofs.multiply_columns.Goals as goal

pub returns : goal.returns
returns g c =
    let s = g.S.Semiring.arithmetic in
    let columns = c.args.columns.now in
    let right = c.args.right.now in
    let shape : c.with_columns_of.result ≡ product_shape c.args.left.now right = c.with_columns_of.ensures ∙ (λ t. record { rows = (c.shape.ensures.shape t).rows; cols = (c.shape-2.ensures.shape t).cols }) in
    multiplied s g.met.S.Semiring.is_semiring _ c.args.left.now (only_columns columns right) c.accumulate_columns.result c.shape.ensures.matrix (only_matrix s columns right c.shape-2.ensures.matrix) (c.empty-nothing.ensures.value ∙ ap empty_matrix shape) c.accumulate_columns.ensures
