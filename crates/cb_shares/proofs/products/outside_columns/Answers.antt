use Rattle.std.proofs.Common.{◌∙◌, ap, subst}
use Rattle.std.specs.Prelude.{◌≡◌, IfOk}
use Rattle.cb_matrix.specs.Sparse.{Sparse}
use Rattle.cb_matrix.specs.Values.{product}
use Rattle.cb_operations.specs.SelectionAnswers.{excluded}
use Rattle.cb_shares.specs.Shares.{columns_from}
use Rattle.cb_shares.proofs.ColumnValues.{only_excluded}
use Rattle.cb_shares.proofs.products.outside_columns.Goals as goal

pub returns : goal.returns
returns g c =
    let s = g.S.Semiring.arithmetic in
    let a = c.args.left.now in
    let b = c.args.right.now in
    let m = c.args.mask.now in
    let is = ap (λ (n : Sparse). excluded s (product s a n) m) c.places_between-low.ensures.columns ∙ only_excluded s g.met.S.Semiring.is_semiring a b c.shape.ensures.matrix c.shape-2.ensures.matrix m (columns_from c.args.first c.args.end) in
    subst (λ (n : Sparse). IfOk c.multiply_outside_columns.result (λ k. k ≡ n)) is c.multiply_outside_columns.ensures
