use Rattle.std.proofs.Common.{◌≡◌, subst, ◌∙◌}
use Rattle.std.specs.Prelude.{IfOk}
use Rattle.cb_matrix.specs.Sparse.{Sparse, IsMatrix}
use Rattle.cb_matrix.specs.Values.{product}
use Rattle.cb_shares.specs.Shares.{columns_from}
use Rattle.cb_shares.proofs.ColumnValues.{only_product}
use Rattle.cb_shares.proofs.products.product_columns.Goals as goal

pub returns : goal.returns
returns g c =
    let s = g.S.Semiring.arithmetic in
    let a = c.args.a.now in
    let b = c.args.b.now in
    let is = subst (λ (m : Sparse). IsMatrix s m) (c.block.ensures ∙ c.in_ok-left.ensures) c.shape.ensures.matrix in
    let left = c.block-3.ensures ∙ c.in_ok-left.ensures in
    let right = c.block-4.ensures ∙ c.in_ok-right.ensures.columns in
    let law = only_product s g.met.S.Semiring.is_semiring a b is c.in_ok-right.ensures.matrix (columns_from c.args.first c.args.end) in
    subst (λ (m : Sparse). IfOk c.multiply.result (λ n. n ≡ m)) ((λ i. product s (left i) (right i)) ∙ law) c.multiply.ensures
