use Rattle.std.proofs.Common.{◌≡◌, ◌+◌, ap, drop, sym, subst, ◌∙◌}
use Rattle.std.specs.Prelude.{All}
use Rattle.std.proofs.lemmas.List.Elements.{All-head, All-tail, All-weaker}
use Rattle.cb_matrix.specs.Sparse.{Sparse}
use Rattle.cb_layout.proofs.PanelValues.{dropped}
use Rattle.cb_shares.specs.Shares.{columns_from}
use Rattle.cb_shares.proofs.PanelColumns.{more_joined, more_matrix}
use Rattle.cb_shares.proofs.columns.append_columns.Goals as goal

pub append-requires-clause-shape : goal.append-requires-clause-shape
append-requires-clause-shape g c =
    let ps = c.args.panels.now in
    let n = c.loop-panel.panel-index in
    let panel = c.panel-item.result in
    let next = dropped ps n panel c.loop-panel-test.true c.panel-item.is in
    ap (λ (m : Sparse). m.shape) c.in_ok-more.ensures
    ∙ All-head (λ (p : Sparse). p.shape ≡ c.loop-panel.made.shape) panel (drop (n + 1) ps) (subst (All (λ (p : Sparse). p.shape ≡ c.loop-panel.made.shape)) next c.loop-panel.invariant.shapes)

pub append-requires-clause-matrix : goal.append-requires-clause-matrix
append-requires-clause-matrix g c =
    let ps = c.args.panels.now in
    let n = c.loop-panel.panel-index in
    let panel = c.panel-item.result in
    let next = dropped ps n panel c.loop-panel-test.true c.panel-item.is in
    more_matrix g.S.Semiring.arithmetic (columns_from c.args.first c.args.end) c.loop-panel.made panel c.in_ok-more.more _ (drop (n + 1) ps) (drop n ps) next c.in_ok-more.ensures c.loop-panel.invariant.whole c.requires.matrix

pub loop-panel-preserved : goal.loop-panel-preserved
loop-panel-preserved g c =
    let made = c.loop-panel.made in
    let ps = c.args.panels.now in
    let n = c.loop-panel.panel-index in
    let panel = c.panel-item.result in
    let rest = drop (n + 1) ps in
    let next = dropped ps n panel c.loop-panel-test.true c.panel-item.is in
    let new = c.in_ok-append.ensures.ok in
    let shape = ap (λ (m : Sparse). m.shape) new in
    let joined = more_joined g.S.Semiring.arithmetic (columns_from c.args.first c.args.end) made panel c.in_ok-more.more _ rest (drop n ps) next c.in_ok-more.ensures c.loop-panel.invariant.whole in
    record {
      whole = rw new joined;
      shapes =
          All-weaker (λ (p : Sparse). p.shape ≡ made.shape) (λ p. p.shape ≡ c.append.new.self.shape) (λ p e. e ∙ sym shape) rest
          (All-tail (λ (p : Sparse). p.shape ≡ made.shape) panel rest (subst (All (λ (p : Sparse). p.shape ≡ made.shape)) next c.loop-panel.invariant.shapes));
    }
