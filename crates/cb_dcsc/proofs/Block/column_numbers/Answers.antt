use Rattle.std.proofs.Common.{ap, ◌∙◌, subst}
use Rattle.cb_matrix.specs.Sparse.{Sparse, IsMatrix}
use Rattle.cb_dcsc.proofs.Held.{columns_are}
use Rattle.cb_dcsc.proofs.NumbersOfColumns.{columns_inside, columns_hold}
use Rattle.cb_dcsc.proofs.Block.column_numbers.Goals as goal

pub returns-clause-numbers : goal.returns-clause-numbers
returns-clause-numbers g c =
    c.deref.ensures.value ∙ columns_are _ _ _ _ _ c.self.invariant.lists (ap (λ (m : Sparse). m.entries) c.self.view_is)

pub returns-clause-ascending : goal.returns-clause-ascending
returns-clause-ascending g c = rw c.deref.ensures.value c.self.invariant.lists.ascending

pub returns-clause-inside : goal.returns-clause-inside
returns-clause-inside g c =
    let s = g.S.Semiring.arithmetic in
    columns_inside s c.args.self.now _ (subst (IsMatrix s) c.self.view_is c.self.invariant.matrix) (c.deref.ensures.value ∙ columns_are _ _ _ _ _ c.self.invariant.lists (ap (λ (m : Sparse). m.entries) c.self.view_is))

pub returns-clause-all : goal.returns-clause-all
returns-clause-all g c =
    columns_hold c.args.self.now.entries _ (c.deref.ensures.value ∙ columns_are _ _ _ _ _ c.self.invariant.lists (ap (λ (m : Sparse). m.entries) c.self.view_is))
