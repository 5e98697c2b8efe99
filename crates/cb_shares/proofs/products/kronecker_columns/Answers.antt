use Rattle.std.proofs.Common.{◌≡◌, ap, subst, ◌∙◌}
use Rattle.std.specs.Prelude.{IfOk, max}
use Rattle.cb_matrix.specs.Sparse.{Extent, Sparse}
use Rattle.cb_operations.specs.SelectionAnswers.{kronecker}
use Rattle.cb_shares.specs.Shares.{panel}
use Rattle.cb_shares.proofs.OuterColumns.{kronecker_panel}
use Rattle.cb_shares.proofs.products.kronecker_columns.Goals as goal

pub returns : goal.returns
returns g c =
    let s = g.S.Semiring.arithmetic in
    let first = c.args.first in
    let end = c.args.end in
    let range = c.outer_columns-low.result in
    let left = c.block.ensures ∙ c.in_ok-left.ensures.columns in
    let right = c.block-2.ensures ∙ c.in_ok-right.ensures in
    let wide = c.max-width.ensures ∙ ap (λ k. max k 1) (c.cols.ensures.value ∙ ap (λ (d : Extent). d.cols) c.shape.ensures.shape) in
    let law = kronecker_panel s g.met.S.Semiring.is_semiring c.args.a.now c.args.b.now c.in_ok-left.ensures.matrix c.shape.ensures.matrix c.max-width.result first end range.0 range.1 wide c.outer_columns-low.ensures in
    subst (λ (m : Sparse). IfOk c.only_between.result (λ n. n ≡ m)) (ap (λ (m : Sparse). panel m first end) c.in_ok-made.ensures ∙ (λ i. panel (kronecker s (left i) (right i)) first end) ∙ law) c.only_between.ensures
