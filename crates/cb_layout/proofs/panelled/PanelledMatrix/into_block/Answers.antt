use Rattle.std.proofs.Common.{◌≡◌, ap, sym, ◌∙◌}
use Rattle.std.proofs.lemmas.List.Elements.{All-tail, All-weaker}
use Rattle.cb_matrix.specs.Sparse.{Sparse}
use Rattle.cb_layout.proofs.panelled.PanelledMatrix.into_block.Goals as goal

pub append_panels-requires-clause-shapes : goal.append_panels-requires-clause-shapes
append_panels-requires-clause-shapes g c =
    let first = c.self.inside.first in
    let others = c.self.inside.others.items in
    let shapes = All-tail (λ (p : Sparse). p.shape ≡ first.shape) first others c.self.invariant.0.shapes in
    All-weaker (λ (p : Sparse). p.shape ≡ first.shape) (λ p. p.shape ≡ c.reserve.new.self.shape)
    (λ p e. e ∙ sym (ap (λ (m : Sparse). m.shape) c.in_ok-reserve.ensures.same)) others shapes
