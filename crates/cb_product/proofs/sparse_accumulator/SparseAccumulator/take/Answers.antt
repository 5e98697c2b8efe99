use Rattle.std.proofs.Common.{◌∙◌}
use Rattle.cb_product.proofs.Written.{written}
use Rattle.cb_product.proofs.sparse_accumulator.SparseAccumulator.take.Goals as goal

pub take_rows-requires-clause-accumulator : goal.take_rows-requires-clause-accumulator
take_rows-requires-clause-accumulator g c = rw (c.deref_mut.ensures.value, c.deref_mut-2.ensures.value, c.deref_mut-3.ensures.value) c.self.invariant.0

pub take_rows-requires-clause-used : goal.take_rows-requires-clause-used
take_rows-requires-clause-used g c = rw c.deref_mut-3.ensures.value c.self.invariant.1

pub invariant_of-self : goal.invariant_of-self
invariant_of-self g c =
    let sums = written c.self.inside.sums.len c.take_rows.new.sums c.self.inside.sums.items (c.take_rows.ensures.length ∙ c.deref_mut.ensures.len) in
    let marks = written c.self.inside.marks.len c.take_rows.new.marks c.self.inside.marks.items (c.take_rows.auto.marks ∙ c.deref_mut-2.ensures.len) in
    let groups = written c.self.inside.groups.len c.take_rows.new.groups c.self.inside.groups.items (c.take_rows.auto.groups ∙ c.deref_mut-3.ensures.len) in
    rw (sums, marks, groups) (c.take_rows.ensures.accumulator, c.take_rows.ensures.used)

pub invariant_of-self-2 : goal.invariant_of-self-2
invariant_of-self-2 g c =
    let sums = written c.self.inside.sums.len c.take_rows.new.sums c.self.inside.sums.items (c.take_rows.ensures.length ∙ c.deref_mut.ensures.len) in
    let marks = written c.self.inside.marks.len c.take_rows.new.marks c.self.inside.marks.items (c.take_rows.auto.marks ∙ c.deref_mut-2.ensures.len) in
    let groups = written c.self.inside.groups.len c.take_rows.new.groups c.self.inside.groups.items (c.take_rows.auto.groups ∙ c.deref_mut-3.ensures.len) in
    rw (sums, marks, groups) (c.take_rows.ensures.accumulator, record { before = λ k l. c.in_ok-take_rows.ensures.none k; after = λ k l. c.in_ok-take_rows.ensures.none k })

pub returns-clause-length : goal.returns-clause-length
returns-clause-length g c =
    let sums = written c.self.inside.sums.len c.take_rows.new.sums c.self.inside.sums.items (c.take_rows.ensures.length ∙ c.deref_mut.ensures.len) in
    rw (sums, ← c.self.view_is) (rw c.deref_mut.ensures.value at c.take_rows.ensures.length)

pub returns-clause-zeros : goal.returns-clause-zeros
returns-clause-zeros g c =
    let sums = written c.self.inside.sums.len c.take_rows.new.sums c.self.inside.sums.items (c.take_rows.ensures.length ∙ c.deref_mut.ensures.len) in
    rw sums c.in_ok-take_rows.ensures.zeros

pub returns-clause-column : goal.returns-clause-column
returns-clause-column g c = rw (← c.self.view_is) (rw c.deref_mut.ensures.value at c.in_ok-take_rows.ensures.column)
