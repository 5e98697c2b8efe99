use Rattle.std.proofs.Common.{ap, subst, ◌∙◌}
use Rattle.cb_matrix.specs.Sparse.{Sparse, IsMatrix}
use Rattle.cb_dcsc.proofs.Held.{nth_column_rows, nth_column_values, starts_for}
use Rattle.cb_dcsc.proofs.Lookup.{ascending_rows, column_values}
use Rattle.cb_dcsc.proofs.Block.nth_column.Goals as goal

pub part-requires : goal.part-requires
part-requires g c =
    let s = starts_for _ _ _ _ _ c.self.invariant.lists (ap (λ (m : Sparse). m.entries) c.self.view_is) c.args.n c.requires in
    rw (c.deref.ensures.value, c.deref-2.ensures.value) (record { place = s.0; rising = s.1; within = s.2 })

pub part-requires-2 : goal.part-requires-2
part-requires-2 g c =
    let are = c.self.invariant.lists in
    let view = ap (λ (m : Sparse). m.entries) c.self.view_is in
    let s = starts_for _ _ _ _ _ are view c.args.n c.requires in
    rw (c.deref-3.ensures.value, c.deref-4.ensures.value, are.same_length) (record { place = s.0; rising = s.1; within = s.2 })

pub returns-clause-rows : goal.returns-clause-rows
returns-clause-rows g c =
    let whole = rw (c.deref.ensures.value, c.deref-2.ensures.value) at c.part.ensures in
    whole ∙ nth_column_rows _ _ _ _ _ c.self.invariant.lists (ap (λ (m : Sparse). m.entries) c.self.view_is) c.args.n c.requires

pub returns-clause-values : goal.returns-clause-values
returns-clause-values g c =
    let whole = rw (c.deref-3.ensures.value, c.deref-4.ensures.value) at c.part-2.ensures in
    whole ∙ nth_column_values _ _ _ _ _ c.self.invariant.lists (ap (λ (m : Sparse). m.entries) c.self.view_is) c.args.n c.requires

pub returns-clause-ascending : goal.returns-clause-ascending
returns-clause-ascending g c =
    let s = g.S.Semiring.arithmetic in
    let matrix = subst (IsMatrix s) c.self.view_is c.self.invariant.matrix in
    let whole = rw (c.deref.ensures.value, c.deref-2.ensures.value) at c.part.ensures in
    ascending_rows s c.args.self.now _ _ matrix (whole ∙ nth_column_rows _ _ _ _ _ c.self.invariant.lists (ap (λ (m : Sparse). m.entries) c.self.view_is) c.args.n c.requires)

pub returns-clause-are_values : goal.returns-clause-are_values
returns-clause-are_values g c =
    let s = g.S.Semiring.arithmetic in
    let matrix = subst (IsMatrix s) c.self.view_is c.self.invariant.matrix in
    let whole = rw (c.deref-3.ensures.value, c.deref-4.ensures.value) at c.part-2.ensures in
    column_values s c.args.self.now _ _ matrix (whole ∙ nth_column_values _ _ _ _ _ c.self.invariant.lists (ap (λ (m : Sparse). m.entries) c.self.view_is) c.args.n c.requires)
