use Rattle.std.proofs.Common.{◌+◌, ap, sym, subst, ◌∙◌}
use Rattle.std.specs.Prelude.{◌≡◌, IfOk}
use Rattle.cb_matrix.specs.Sparse.{Sparse}
use Rattle.cb_matrix.specs.Operations.{cut}
use Rattle.cb_shares.specs.Shares.{panel}
use Rattle.cb_shares.proofs.ShiftedColumns.{cut_panel, whole_part}
use Rattle.cb_shares.proofs.parts.part_columns.Goals as goal

pub returns-in-Some : goal.returns-in-Some
returns-in-Some g c =
    let s = g.S.Semiring.arithmetic in
    let rows = c.args.rows in
    let cols = c.args.cols in
    let law = whole_part s g.met.S.Semiring.is_semiring c.in-Some.block.now c.shape.ensures.matrix rows cols c.args.end c.if-wide-end.true in
    let all = law ∙ (λ i. panel (cut s rows cols (c.in-Some.ensures i)) (sym c.if-first-eq0.true i) c.args.end) in
    subst (λ (m : Sparse). IfOk c.cut.result (λ n. n ≡ m)) all c.cut.ensures

pub returns : goal.returns
returns g c =
    let s = g.S.Semiring.arithmetic in
    let a = c.args.matrix.now in
    let low = c.min.ensures in
    let high = c.min-2.ensures in
    let columns = c.block.ensures ∙ c.in_ok-columns.ensures.columns ∙ (λ i. panel a (c.args.cols.0 + low i) (c.args.cols.0 + high i)) in
    let law = cut_panel s g.met.S.Semiring.is_semiring a c.in_ok-columns.ensures.matrix c.args.rows c.args.cols c.args.first c.args.end in
    subst (λ (m : Sparse). IfOk c.cut-2.result (λ n. n ≡ m)) (ap (λ (m : Sparse). cut s c.args.rows c.args.cols m) columns ∙ law) c.cut-2.ensures
