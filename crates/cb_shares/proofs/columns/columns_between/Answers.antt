use Rattle.std.proofs.Common.{◌≡◌, ◌≤◌, ap, sym, subst, arith, ◌∙◌}
use Rattle.std.specs.Prelude.{IfOk}
use Rattle.std.proofs.lemmas.Bool.{eqb-true}
use Rattle.std.proofs.lemmas.List.{nil_from_length}
use Rattle.std.proofs.lemmas.List.Elements.{All-head, All-tail, All-weaker}
use Rattle.cb_matrix.specs.Sparse.{Sparse, Extent}
use Rattle.cb_layout.specs.Panels.{whole_of}
use Rattle.cb_shares.specs.Shares.{columns_from, panel}
use Rattle.cb_shares.proofs.PanelColumns.{all_joined, all_matrix, one_panel}
use Rattle.cb_shares.proofs.Ranges.{all_columns}
use Rattle.cb_shares.proofs.columns.columns_between.Goals as goal

pub returns-then-is_empty-clause-columns : goal.returns-then-is_empty-clause-columns
returns-then-is_empty-clause-columns g c =
    let m = c.args.matrix.now in
    let front = c.panels.result.0.now in
    let others = c.panels.result.1.now in
    let one = one_panel m front others c.panels.ensures.panels c.panels.ensures.shapes (nil_from_length others (eqb-true _ _ (sym c.if-is_empty.ensures))) in
    subst (λ (n : Sparse). IfOk c.block_columns.result (λ made. whole_of made ≡ panel n c.args.first c.args.end)) one c.block_columns.ensures

pub append_columns-requires-clause-shapes : goal.append_columns-requires-clause-shapes
append_columns-requires-clause-shapes g c =
    let m = c.args.matrix.now in
    let front = c.panels.result.0.now in
    let others = c.panels.result.1.now in
    let shapes = All-tail (λ (p : Sparse). p.shape ≡ m.shape) front others c.panels.ensures.shapes in
    let made = ap (λ (n : Sparse). n.shape) c.in_ok-made.ensures in
    let first = All-head (λ (p : Sparse). p.shape ≡ m.shape) front others c.panels.ensures.shapes in
    All-weaker (λ (p : Sparse). p.shape ≡ m.shape) (λ p. p.shape ≡ c.in_ok-made.made.shape) (λ p e. e ∙ sym first ∙ sym made) others shapes

pub append_columns-requires-clause-matrix : goal.append_columns-requires-clause-matrix
append_columns-requires-clause-matrix g c =
    all_matrix g.S.Semiring.arithmetic (columns_from c.args.first c.args.end) c.args.matrix.now c.panels.result.0.now c.in_ok-made.made c.panels.result.1.now c.panels.ensures.panels c.panels.ensures.shapes c.in_ok-made.ensures c.shape-2.ensures.matrix

pub returns-clause-columns : goal.returns-clause-columns
returns-clause-columns g c =
    c.in_ok-append_columns.ensures
    ∙ all_joined g.S.Semiring.arithmetic (columns_from c.args.first c.args.end) c.args.matrix.now c.panels.result.0.now c.in_ok-made.made c.panels.result.1.now c.panels.ensures.panels c.panels.ensures.shapes c.in_ok-made.ensures

pub returns-then-end-cols-clause-columns : goal.returns-then-end-cols-clause-columns
returns-then-end-cols-clause-columns g c =
    let m = c.args.matrix.now in
    let cols : c.cols.result ≡ m.shape.cols = c.cols.ensures.value ∙ ap (λ (d : Extent). d.cols) c.shape-then-first-eq0.ensures.shape in
    let high : c.cols.result ≤ c.args.end = c.if-end-cols.true in
    let law = ap (λ n. panel m n c.args.end) c.if-first-eq0.true ∙ all_columns g.S.Semiring.arithmetic m c.args.end c.shape-2.ensures.matrix (omega (arith, cols, high)) in
    subst (λ (n : Sparse). IfOk c.whole.result (λ made. whole_of made ≡ n)) (sym law) c.whole.ensures
