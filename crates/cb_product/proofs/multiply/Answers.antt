use Rattle.std.proofs.Common.{◌≡◌, ap, ◌∙◌}
use Rattle.cb_matrix.specs.Values.{empty_matrix, product_shape}
use Rattle.cb_product.proofs.ProductColumns.{multiplied}
use Rattle.cb_product.proofs.multiply.Goals as goal

pub returns : goal.returns
returns g c =
    let shape : c.with_columns_of.result ≡ product_shape c.args.left.now c.args.right.now = c.with_columns_of.ensures ∙ (λ t. record { rows = (c.shape.ensures.shape t).rows; cols = (c.shape-2.ensures.shape t).cols }) in
    multiplied g.S.Semiring.arithmetic g.met.S.Semiring.is_semiring _ c.args.left.now c.args.right.now c.accumulate.result c.shape.ensures.matrix c.shape-2.ensures.matrix (c.empty-nothing.ensures.value ∙ ap empty_matrix shape) c.accumulate.ensures
