use Rattle.std.proofs.Common.{◌≢◌, ◌+◌, ap, drop, drop_of_length-le, sym, subst, ◌∙◌}
use Rattle.std.specs.Prelude.{All}
use Rattle.cb_matrix.specs.declared.Entry.{Entry}
use Rattle.cb_matrix.specs.Sparse.{value_at}
use Rattle.cb_matrix.proofs.Pairs.{All-front}
use Rattle.cb_dcsc.proofs.Pushed.{All-back}
use Rattle.cb_layout.specs.Panels.{entries_of_panels}
use Rattle.cb_layout.proofs.PanelValues.{dropped, value_first, value_rest}
use Rattle.cb_layout.proofs.panelled.value_in.Goals as goal

pub returns-then-value-zero : goal.returns-then-value-zero
returns-then-value-zero g c =
    let z = g.S.Semiring.arithmetic.zero in
    let ps = c.args.panels.now in
    let n = c.loop-panel.panel-index in
    let panel = c.panel-item.result in
    let i = c.args.row in
    let j = c.args.column in
    let next = dropped ps n panel c.loop-panel-test.true c.panel-item.is in
    let value = c.get-value.ensures.value in
    value
    ∙ sym (value_first z i j panel.entries (entries_of_panels (drop (n + 1) ps)) (λ none. c.if-value-zero.true (value ∙ none ∙ sym c.zero.ensures)))
    ∙ ap (λ qs. value_at z (entries_of_panels qs) i j) (sym next)
    ∙ c.loop-panel.invariant.none

pub loop-panel-preserved : goal.loop-panel-preserved
loop-panel-preserved g c =
    let z = g.S.Semiring.arithmetic.zero in
    let ps = c.args.panels.now in
    let n = c.loop-panel.panel-index in
    let panel = c.panel-item.result in
    let i = c.args.row in
    let j = c.args.column in
    let rest = entries_of_panels (drop (n + 1) ps) in
    let next = dropped ps n panel c.loop-panel-test.true c.panel-item.is in
    let stored = subst (λ qs. All (λ (e : Entry). e.value ≢ z) (entries_of_panels qs)) next c.loop-panel.invariant.stored in
    let none = sym c.get-value.ensures.value ∙ c.if-value-zero.false ∙ c.zero.ensures in
    record {
      none =
          sym (value_rest z i j panel.entries rest (All-front (λ (e : Entry). e.value ≢ z) panel.entries rest stored) none)
          ∙ ap (λ qs. value_at z (entries_of_panels qs) i j) (sym next)
          ∙ c.loop-panel.invariant.none;
      stored = All-back (λ (e : Entry). e.value ≢ z) panel.entries rest stored;
    }

pub returns : goal.returns
unfolding value_at
returns g c =
    let z = g.S.Semiring.arithmetic.zero in
    let ps = c.args.panels.now in
    let over = drop_of_length-le ps c.loop-panel-test.false in
    c.zero-2.ensures ∙ ap (λ qs. value_at z (entries_of_panels qs) c.args.row c.args.column) (sym over) ∙ c.loop-panel.invariant.none
