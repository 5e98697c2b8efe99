use Rattle.std.proofs.Common.{ap, ◌∙◌}
use Rattle.cb_matrix.specs.Sparse.{Sparse}
use Rattle.cb_reshape.specs.Sums.{matrix_total}
use Rattle.cb_kept.proofs.WholeColumns.{whole_panel}
use Rattle.cb_kept.proofs.kept_sums.total_over.Goals as goal

pub returns : goal.returns
returns g c =
    let s = g.S.Semiring.arithmetic in
    record {
      columns = c.total_of_columns.ensures;
      all = λ whole. c.total_of_columns.ensures ∙ ap (λ (m : Sparse). matrix_total s m) (whole_panel c.args.matrix.now c.args.first c.args.end c.shape.ensures.matrix.inside whole);
    }
