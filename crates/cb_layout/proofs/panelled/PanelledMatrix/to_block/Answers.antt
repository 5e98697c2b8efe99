use Rattle.std.proofs.Common.{◌≡◌, ap, sym, subst, ◌∙◌, List}
use Rattle.std.specs.Prelude.{All}
use Rattle.std.proofs.lemmas.List.Elements.{All-tail, All-weaker}
use Rattle.cb_matrix.specs.Sparse.{Sparse}
use Rattle.cb_layout.proofs.panelled.PanelledMatrix.to_block.Goals as goal

pub append_copies-requires-clause-shapes : goal.append_copies-requires-clause-shapes
append_copies-requires-clause-shapes g c =
    let first = c.self.inside.first in
    let others = c.self.inside.others.items in
    let same = c.in_ok-reserve.ensures.same ∙ c.in_ok-block.ensures in
    let shapes = All-tail (λ (p : Sparse). p.shape ≡ first.shape) first others c.self.invariant.0.shapes in
    subst (λ (ps : List Sparse). All (λ p. p.shape ≡ c.reserve.new.self.shape) ps) (sym c.deref.ensures.value)
    (All-weaker (λ (p : Sparse). p.shape ≡ first.shape) (λ p. p.shape ≡ c.reserve.new.self.shape) (λ p e. e ∙ sym (ap (λ (m : Sparse). m.shape) same)) others shapes)
