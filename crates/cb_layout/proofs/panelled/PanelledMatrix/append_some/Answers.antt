use Rattle.std.proofs.Common.{rules, ◌≡◌, ◌≤◌, ◌∷◌, ◌++◌, length, ap, subst, ◌∙◌, arith, length-append}
use Rattle.cb_matrix.specs.Sparse.{Sparse, Extent}
use Rattle.cb_layout.specs.Panels.{entries_of_panels}
use Rattle.cb_layout.proofs.Panels.{few_entries, entries_of_both, are_both}
use Rattle.cb_layout.proofs.panelled.PanelledMatrix.append_some.Goals as goal

pub overflow_add-self : goal.overflow_add-self
overflow_add-self g c =
    let s = g.S.Semiring.arithmetic in
    let rows : c.args.other.now.shape.rows ≤ 2147483647 = search rules in
    let cols : c.args.other.now.shape.cols ≤ 2147483647 = search rules in
    let few = few_entries s _ (subst (λ (d : Extent). d.rows ≤ 2147483647) c.requires.shape rows) (subst (λ (d : Extent). d.cols ≤ 2147483647) c.requires.shape cols) c.requires.matrix in
    let both = length-append c.args.self.now.entries c.args.other.now.entries in
    let own = c.self.invariant.1 ∙ ap (λ (m : Sparse). length m.entries) c.self.view_is in
    let other = c.other.invariant.1 ∙ ap (λ (m : Sparse). length m.entries) c.other.view_is in
    omega (arith, few, both, own, other)

pub invariant_of-self-2 : goal.invariant_of-self-2
invariant_of-self-2 g c =
    let a = c.self.inside in
    let b = c.other.inside in
    let xs = a.first ∷ a.others.items in
    let ys = b.first ∷ b.others.items in
    let items : c.push_panels.new.panels.items ≡ a.others.items ++ ys = search rules in
    let are = are_both g.S.Semiring.arithmetic a.first.shape b.first.shape xs ys c.args.self.now c.args.other.now c.self.invariant.0 c.other.invariant.0 c.self.view_is c.other.view_is c.requires.shape c.requires.matrix in
    let count = ap length (entries_of_both xs ys) ∙ length-append (entries_of_panels xs) (entries_of_panels ys) in
    let own = c.self.invariant.1 in
    let other = c.other.invariant.1 in
    rw items (are, omega arith)
