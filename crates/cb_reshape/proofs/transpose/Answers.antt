use Rattle.std.proofs.Common.{◌≡◌, ◌∙◌, IfOk, ap, subst}
use Rattle.cb_matrix.specs.Operations.{transposed}
use Rattle.cb_matrix.specs.Sparse.{Sparse, Extent}
use Rattle.cb_reshape.specs.Rows.{rows_within}
use Rattle.cb_reshape.proofs.Within.{all_within}
use Rattle.cb_reshape.proofs.transpose.Goals as goal

pub returns : goal.returns
returns g c =
    let s = g.S.Semiring.arithmetic in
    let m = c.args.block.now in
    let rows = c.rows.ensures.value ∙ ap (λ (d : Extent). d.rows) c.shape.ensures.shape in
    let whole = ap (λ n. rows_within (0, n) m) rows ∙ all_within s m c.shape.ensures.matrix in
    subst (λ (x : Sparse). IfOk c.transpose_rows.result (λ turned. turned ≡ transposed s x)) whole c.transpose_rows.ensures
