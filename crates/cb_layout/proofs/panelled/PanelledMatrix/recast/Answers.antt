use Rattle.std.proofs.Common.{◌≡◌, ◌∷◌, List, length, sym, subst, ◌∙◌}
use Rattle.std.specs.Prelude.{All}
use Rattle.std.proofs.lemmas.List.Elements.{All-head, All-tail}
use Rattle.cb_matrix.specs.Sparse.{Sparse}
use Rattle.cb_layout.specs.Panels.{ArePanels, entries_of_panels, side_by_side}
use Rattle.cb_layout.proofs.Recasts.{IsStored, panel_values, panels_there}
use Rattle.cb_layout.proofs.panelled.PanelledMatrix.recast.Goals as goal

pub recast-requires : goal.recast-requires
recast-requires g c =
    let t = g.T.Semiring.arithmetic in
    let a = c.self.inside in
    let values = subst (λ (m : Sparse). All (IsStored t) m.entries) (sym c.self.view_is) c.requires.values in
    record { values = All-head (λ (p : Sparse). All (IsStored t) p.entries) a.first a.others.items (panel_values t (a.first ∷ a.others.items) values) }

pub recast_blocks-requires : goal.recast_blocks-requires
recast_blocks-requires g c =
    let t = g.T.Semiring.arithmetic in
    let a = c.self.inside in
    let values = subst (λ (m : Sparse). All (IsStored t) m.entries) (sym c.self.view_is) c.requires.values in
    All-tail (λ (p : Sparse). All (IsStored t) p.entries) a.first a.others.items (panel_values t (a.first ∷ a.others.items) values)

pub invariant_of-result : goal.invariant_of-result
invariant_of-result g c =
    let t = g.T.Semiring.arithmetic in
    let a = c.self.inside in
    let values = subst (λ (m : Sparse). All (IsStored t) m.entries) (sym c.self.view_is) c.requires.values in
    let are = panels_there t g.S.Semiring.arithmetic a.first.shape (a.first ∷ a.others.items) c.self.invariant.0 values in
    subst (λ (p : Sparse). ArePanels t p.shape (p ∷ c.in_ok-recast_blocks.field-0.items) × (a.len ≡ length (entries_of_panels (p ∷ c.in_ok-recast_blocks.field-0.items)))) (sym c.recast.ensures)
    (subst (λ (ps : List Sparse). ArePanels t a.first.shape (a.first ∷ ps) × (a.len ≡ length (entries_of_panels (a.first ∷ ps)))) (sym c.in_ok-recast_blocks.ensures) (are, c.self.invariant.1))

pub returns : goal.returns
returns g c =
    (λ i. let first : Sparse = c.recast.ensures i in side_by_side first.shape (first ∷ c.in_ok-recast_blocks.ensures i)) ∙ c.self.view_is
