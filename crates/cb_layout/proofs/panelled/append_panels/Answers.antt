use Rattle.std.proofs.Common.{◌≡◌, ap, sym, subst, ◌∙◌}
use Rattle.std.specs.Prelude.{All}
use Rattle.std.proofs.lemmas.List.Elements.{All-tail, All-weaker}
use Rattle.cb_matrix.specs.Sparse.{Sparse}
use Rattle.cb_layout.proofs.Panels.{joined_is_matrix, joined_more}
use Rattle.cb_layout.proofs.panelled.append_panels.Goals as goal

pub append-requires-clause-matrix : goal.append-requires-clause-matrix
append-requires-clause-matrix g c =
    joined_is_matrix g.S.Semiring.arithmetic c.loop-panel.block c.in-Some.panel _ c.next.new.self.rest.items c.loop-panel.panel-iterator.rest.items c.in-Some.ensures.steps.0 c.loop-panel.invariant.whole c.requires.matrix

pub loop-panel-preserved : goal.loop-panel-preserved
loop-panel-preserved g c =
    let block = c.loop-panel.block in
    let panel = c.in-Some.panel in
    let rest = c.next.new.self.rest.items in
    let next = c.in-Some.ensures.steps.0 in
    let shape = ap (λ (m : Sparse). m.shape) c.in_ok-append.ensures.ok in
    record {
      whole = joined_more g.S.Semiring.arithmetic block panel _ rest c.loop-panel.panel-iterator.rest.items next c.loop-panel.invariant.whole c.append.new.self c.in_ok-append.ensures.ok;
      shapes =
          All-weaker (λ (p : Sparse). p.shape ≡ block.shape) (λ p. p.shape ≡ c.append.new.self.shape) (λ p e. e ∙ sym shape) rest
          (All-tail (λ (p : Sparse). p.shape ≡ block.shape) panel rest (subst (All (λ (p : Sparse). p.shape ≡ block.shape)) next c.loop-panel.invariant.shapes));
    }
