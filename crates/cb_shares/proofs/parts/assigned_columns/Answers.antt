use Rattle.std.proofs.Common.{◌-◌, ap, subst, ◌∙◌}
use Rattle.std.specs.Prelude.{◌≡◌, IfOk}
use Rattle.cb_matrix.specs.Sparse.{Sparse}
use Rattle.cb_operations.specs.SelectionAnswers.{assigned}
use Rattle.cb_shares.specs.Shares.{panel}
use Rattle.cb_shares.proofs.ShiftedColumns.{assigned_panel}
use Rattle.cb_shares.proofs.parts.assigned_columns.Goals as goal

pub returns : goal.returns
returns g c =
    let s = g.S.Semiring.arithmetic in
    let a = c.args.matrix.now in
    let b = c.args.part.now in
    let low = c.saturating_sub-low.ensures in
    let high = c.saturating_sub-high.ensures in
    let outer = c.block.ensures ∙ c.in_ok-outer.ensures.columns in
    let inner = c.block-2.ensures ∙ c.in_ok-inner.ensures.columns ∙ (λ i. panel b (low i) (high i)) in
    let law = assigned_panel s g.met.S.Semiring.is_semiring a c.in_ok-outer.ensures.matrix b c.in_ok-inner.ensures.matrix c.args.corner c.args.first c.args.end in
    subst (λ (m : Sparse). IfOk c.assign.result (λ n. n ≡ m)) ((λ i. assigned s c.args.corner (inner i) (outer i)) ∙ law) c.assign.ensures
