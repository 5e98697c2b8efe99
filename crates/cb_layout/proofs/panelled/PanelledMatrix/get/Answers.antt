use Rattle.std.proofs.Common.{◌≢◌, ap, sym, subst, ◌∙◌, List}
use Rattle.std.specs.Prelude.{All}
use Rattle.cb_matrix.specs.declared.Entry.{Entry}
use Rattle.cb_matrix.specs.Sparse.{Sparse, at, value_at}
use Rattle.cb_matrix.proofs.Pairs.{All-front}
use Rattle.cb_dcsc.proofs.Pushed.{All-back}
use Rattle.cb_layout.specs.Panels.{entries_of_panels}
use Rattle.cb_layout.proofs.PanelValues.{value_first, value_rest}
use Rattle.cb_layout.proofs.panelled.PanelledMatrix.get.Goals as goal

pub value_in-requires : goal.value_in-requires
value_in-requires g c =
    let z = g.S.Semiring.arithmetic.zero in
    let a = c.self.inside in
    subst (λ (ps : List Sparse). All (λ (e : Entry). e.value ≢ z) (entries_of_panels ps)) (sym c.deref.ensures.value)
    (All-back (λ (e : Entry). e.value ≢ z) a.first.entries (entries_of_panels a.others.items) c.self.invariant.0.matrix.not_zero)

pub returns-then-value-zero : goal.returns-then-value-zero
returns-then-value-zero g c =
    let s = g.S.Semiring.arithmetic in
    let a = c.self.inside in
    let i = c.args.row in
    let j = c.args.column in
    let stored = All-front (λ (e : Entry). e.value ≢ s.zero) a.first.entries (entries_of_panels a.others.items) c.self.invariant.0.matrix.not_zero in
    c.value_in.ensures
    ∙ ap (λ (ps : List Sparse). value_at s.zero (entries_of_panels ps) i j) c.deref.ensures.value
    ∙ sym (value_rest s.zero i j a.first.entries (entries_of_panels a.others.items) stored (sym c.get-value.ensures.value ∙ c.if-value-zero.true ∙ c.zero.ensures))
    ∙ ap (λ (m : Sparse). at s m i j) c.self.view_is

pub returns-else-value-zero : goal.returns-else-value-zero
returns-else-value-zero g c =
    let s = g.S.Semiring.arithmetic in
    let a = c.self.inside in
    let i = c.args.row in
    let j = c.args.column in
    let value = c.get-value.ensures.value in
    value
    ∙ sym (value_first s.zero i j a.first.entries (entries_of_panels a.others.items) (λ none. c.if-value-zero.false (value ∙ none ∙ sym c.zero.ensures)))
    ∙ ap (λ (m : Sparse). at s m i j) c.self.view_is
