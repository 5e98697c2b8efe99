use Rattle.std.proofs.Common.{◌≡◌, ◌∙◌, ap, subst}
use Rattle.std.specs.Prelude.{IfOk, min}
use Rattle.cb_matrix.specs.Operations.{transposed}
use Rattle.cb_matrix.specs.Sparse.{Sparse, IsMatrix, Extent}
use Rattle.cb_reshape.specs.Rows.{rows_within}
use Rattle.cb_shares.proofs.TurnedColumns.{turned_columns}
use Rattle.cb_shares.proofs.answers.transposed_columns.Goals as goal

pub returns : goal.returns
returns g c =
    let s = g.S.Semiring.arithmetic in
    let m = c.args.a.now in
    let here = c.block.ensures ∙ c.in_ok-whole.ensures in
    let there = c.block-2.ensures ∙ c.in_ok-whole.ensures in
    let is = subst (λ (x : Sparse). IsMatrix s x) here c.shape.ensures.matrix in
    let rows = c.rows.ensures.value ∙ ap (λ (d : Extent). d.rows) c.shape.ensures.shape ∙ ap (λ (x : Sparse). x.shape.rows) here in
    let high = c.min-end.ensures ∙ ap (min c.args.end) rows in
    let law = ap (λ (x : Sparse). transposed s (rows_within (c.min.result, c.min-end.result) x)) there
    ∙ turned_columns s g.met.S.Semiring.is_semiring m is c.args.first c.args.end c.min.result c.min-end.result high c.min.ensures in
    subst (λ (x : Sparse). IfOk c.transpose_rows.result (λ t. t ≡ x)) law c.transpose_rows.ensures
