use Rattle.std.proofs.Common.{◌≡◌, ◌+◌, ap, drop, sym, subst, ◌∙◌}
use Rattle.std.specs.Prelude.{All}
use Rattle.std.proofs.lemmas.List.Elements.{All-tail, All-weaker}
use Rattle.cb_matrix.specs.Sparse.{Sparse}
use Rattle.cb_dcsc.specs.Columns.{with_entries}
use Rattle.cb_layout.proofs.PanelValues.{dropped}
use Rattle.cb_layout.proofs.Panels.{joined_is_matrix, joined_more}
use Rattle.cb_layout.proofs.panelled.append_copies.Goals as goal

pub append-requires-clause-matrix : goal.append-requires-clause-matrix
append-requires-clause-matrix g c =
    let block = c.loop-panel.block in
    let ps = c.args.panels.now in
    let next = dropped ps c.loop-panel.panel-index c.panel-item.result c.loop-panel-test.true c.panel-item.is in
    let is = joined_is_matrix g.S.Semiring.arithmetic block c.panel-item.result _ (drop (c.loop-panel.panel-index + 1) ps) (drop c.loop-panel.panel-index ps) next c.loop-panel.invariant.whole c.requires.matrix in
    rw c.in_ok-copy.ensures is

pub loop-panel-preserved : goal.loop-panel-preserved
loop-panel-preserved g c =
    let block = c.loop-panel.block in
    let ps = c.args.panels.now in
    let panel = c.panel-item.result in
    let rest = drop (c.loop-panel.panel-index + 1) ps in
    let next = dropped ps c.loop-panel.panel-index panel c.loop-panel-test.true c.panel-item.is in
    let more = c.in_ok-append.ensures.ok ∙ (λ t. with_entries block (c.in_ok-copy.ensures t).entries) in
    let shape = ap (λ (m : Sparse). m.shape) more in
    record {
      whole = joined_more g.S.Semiring.arithmetic block panel _ rest (drop c.loop-panel.panel-index ps) next c.loop-panel.invariant.whole c.append.new.self more;
      shapes =
          All-weaker (λ (p : Sparse). p.shape ≡ block.shape) (λ p. p.shape ≡ c.append.new.self.shape) (λ p e. e ∙ sym shape) rest
          (All-tail (λ (p : Sparse). p.shape ≡ block.shape) panel rest (subst (All (λ (p : Sparse). p.shape ≡ block.shape)) next c.loop-panel.invariant.shapes));
    }
