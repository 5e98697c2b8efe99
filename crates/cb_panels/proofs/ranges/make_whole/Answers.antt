use Rattle.std.proofs.Common.{◌≡◌, ◌≤◌, ◌∙◌, ap, arith}
use Rattle.cb_matrix.specs.declared.TheConstants.{LIMIT}
use Rattle.cb_matrix.specs.Sparse.{Sparse, Extent}
use Rattle.cb_operations.specs.Computations.{answer_of}
use Rattle.cb_operations.specs.Operands.{lent_in}
use Rattle.cb_shares.proofs.Ranges.{all_columns}
use Rattle.cb_panels.proofs.ranges.make_whole.Goals as goal

pub returns : goal.returns
returns g c =
    let s = g.S.Semiring.arithmetic in
    let whole : Sparse = answer_of c.args.computation s (lent_in c.args.operands.now) in
    let cols : c.cols.result ≡ whole.shape.cols = c.cols.ensures.value ∙ ap (λ (d : Extent). d.cols) c.shape.ensures.shape ∙ ap (λ (m : Sparse). m.shape.cols) c.in_ok-made.ensures in
    let high : c.cols.result ≤ LIMIT = c.cols.ensures.limit in
    c.in_ok-made.ensures ∙ all_columns s whole LIMIT c.requires.matrix (omega (arith, cols, high))
