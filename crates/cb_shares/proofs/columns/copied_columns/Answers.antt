use Rattle.std.proofs.Common.{◌≡◌, ◌∙◌, ap, arith}
use Rattle.cb_matrix.specs.Sparse.{Extent, Sparse}
use Rattle.cb_matrix.specs.Values.{empty_matrix}
use Rattle.cb_dcsc.specs.Columns.{moved_columns, with_entries}
use Rattle.cb_shares.proofs.CopiedColumns.{copied}
use Rattle.cb_shares.proofs.columns.copied_columns.Goals as goal

pub returns : goal.returns
returns g c =
    let m = c.args.block.now in
    let p = c.min-first.result in
    let q = c.min-end.result in
    let made : c.empty-made.result ≡ empty_matrix m.shape = c.empty-made.ensures.value ∙ ap empty_matrix c.shape-shape.ensures.shape in
    let cols : c.cols.result ≡ m.shape.cols = c.cols.ensures.value ∙ ap (λ (d : Extent). d.cols) c.shape-shape.ensures.shape in
    let low = c.min-first.ensures in
    let high = c.min-end.ensures in
    c.in_ok-append_columns.ensures.ok
    ∙ ap (λ (n : Sparse). with_entries n (moved_columns (p, q) (0, p) m.entries)) made
    ∙ copied g.S.Semiring.arithmetic m c.shape-shape.ensures.matrix c.args.first c.args.end p q (omega arith) (λ l. omega arith) (λ l. omega arith) (omega arith) (λ l. omega arith)
