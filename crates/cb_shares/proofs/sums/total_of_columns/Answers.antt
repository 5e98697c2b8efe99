use Rattle.std.proofs.Common.{◌≡◌, ◌+◌, drop, drop_of_length-le, sym, ap, subst, ◌∙◌}
use Rattle.std.specs.Prelude.{All, List}
use Rattle.std.proofs.lemmas.List.Elements.{All-head, All-tail}
use Rattle.cb_semirings.specs.Arithmetic.{IsValue}
use Rattle.cb_matrix.specs.Sparse.{Sparse, IsMatrix}
use Rattle.cb_layout.specs.Panels.{side_by_side}
use Rattle.cb_layout.proofs.PanelValues.{dropped}
use Rattle.cb_reshape.specs.Sums.{matrix_total}
use Rattle.cb_shares.specs.Shares.{columns_from, panel}
use Rattle.cb_shares.proofs.PanelTotals.{rest_matrix, no_total}
use Rattle.cb_shares.proofs.PanelSums.{more_some, some_total, some_value}
use Rattle.cb_shares.proofs.sums.total_of_columns.Goals as goal

pub loop-panel-init : goal.loop-panel-init
loop-panel-init g c =
    let s = g.S.Semiring.arithmetic in
    let laws = g.met.S.Semiring.is_semiring in
    let m = c.args.matrix.now in
    let p = c.args.first in
    let q = c.args.end in
    let cs = columns_from p q in
    let first = c.panels.result.0.now in
    let others = c.panels.result.1.now in
    let is = subst (λ (n : Sparse). IsMatrix s n) (sym c.panels.ensures.panels) c.shape-2.ensures.matrix in
    let shape = All-head (λ (p : Sparse). p.shape ≡ m.shape) first others c.panels.ensures.shapes in
    record {
      whole = ap (λ x. s.add x (matrix_total s (panel (side_by_side m.shape others) p q))) c.total_of-sum.ensures ∙ sym (some_total s laws m.shape cs first others is shape) ∙ ap (λ (n : Sparse). matrix_total s (panel n p q)) c.panels.ensures.panels;
      value = subst (IsValue s) (sym c.total_of-sum.ensures) (some_value s laws m.shape cs first others is shape);
      matrix = rest_matrix s m.shape first others is;
      shapes = All-tail (λ (p : Sparse). p.shape ≡ m.shape) first others c.panels.ensures.shapes;
    }

pub add-sum-requires-clause-right_is_value : goal.add-sum-requires-clause-right_is_value
add-sum-requires-clause-right_is_value g c =
    let s = g.S.Semiring.arithmetic in
    let laws = g.met.S.Semiring.is_semiring in
    let m = c.args.matrix.now in
    let ps = c.panels.result.1.now in
    let n = c.loop-panel.panel-index in
    let one = c.panel-item.result in
    let next = dropped ps n one c.loop-panel-test.true c.panel-item.is in
    let is = subst (λ (qs : List Sparse). IsMatrix s (side_by_side m.shape qs)) next c.loop-panel.invariant.matrix in
    let shapes = subst (All (λ (p : Sparse). p.shape ≡ m.shape)) next c.loop-panel.invariant.shapes in
    subst (IsValue s) (sym c.total_of.ensures) (some_value s laws m.shape (columns_from c.args.first c.args.end) one (drop (n + 1) ps) is (All-head (λ (p : Sparse). p.shape ≡ m.shape) one (drop (n + 1) ps) shapes))

pub loop-panel-preserved : goal.loop-panel-preserved
loop-panel-preserved g c =
    let s = g.S.Semiring.arithmetic in
    let laws = g.met.S.Semiring.is_semiring in
    let m = c.args.matrix.now in
    let p = c.args.first in
    let q = c.args.end in
    let cs = columns_from p q in
    let ps = c.panels.result.1.now in
    let n = c.loop-panel.panel-index in
    let one = c.panel-item.result in
    let rest = drop (n + 1) ps in
    let next = dropped ps n one c.loop-panel-test.true c.panel-item.is in
    let is = subst (λ (qs : List Sparse). IsMatrix s (side_by_side m.shape qs)) next c.loop-panel.invariant.matrix in
    let shapes = subst (All (λ (p : Sparse). p.shape ≡ m.shape)) next c.loop-panel.invariant.shapes in
    let shape = All-head (λ (p : Sparse). p.shape ≡ m.shape) one rest shapes in
    let sum = c.add-sum.ensures ∙ ap (s.add c.loop-panel.sum) c.total_of.ensures in
    let value = subst (IsValue s) (sym c.total_of.ensures) (some_value s laws m.shape cs one rest is shape) in
    record {
      whole = ap (λ x. s.add x (matrix_total s (panel (side_by_side m.shape rest) p q))) sum ∙ more_some s laws m.shape cs one rest is shape c.loop-panel.sum c.loop-panel.invariant.value ∙ ap (λ (qs : List Sparse). s.add c.loop-panel.sum (matrix_total s (panel (side_by_side m.shape qs) p q))) (sym next) ∙ c.loop-panel.invariant.whole;
      value = subst (IsValue s) (sym c.add-sum.ensures) (laws.add_value c.loop-panel.sum c.total_of.result c.loop-panel.invariant.value value);
      matrix = rest_matrix s m.shape one rest is;
      shapes = All-tail (λ (p : Sparse). p.shape ≡ m.shape) one rest shapes;
    }

pub returns : goal.returns
returns g c =
    let s = g.S.Semiring.arithmetic in
    let laws = g.met.S.Semiring.is_semiring in
    let m = c.args.matrix.now in
    let ps = c.panels.result.1.now in
    let over = drop_of_length-le ps c.loop-panel-test.false in
    no_total s laws m.shape c.loop-panel.sum c.loop-panel.invariant.value ∙ ap (λ (qs : List Sparse). s.add c.loop-panel.sum (matrix_total s (panel (side_by_side m.shape qs) c.args.first c.args.end))) (sym over) ∙ c.loop-panel.invariant.whole
