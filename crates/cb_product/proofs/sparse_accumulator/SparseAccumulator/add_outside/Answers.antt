use Rattle.std.proofs.Common.{◌∙◌}
use Rattle.cb_product.proofs.MarkBits.{zero_wider}
use Rattle.cb_product.proofs.Written.{written}
use Rattle.cb_product.proofs.sparse_accumulator.SparseAccumulator.add_outside.Goals as goal

pub add_entries_outside-requires-clause-inside : goal.add_entries_outside-requires-clause-inside
add_entries_outside-requires-clause-inside g c = rw c.deref_mut.ensures.value (rw (← c.self.view_is) at c.requires.inside)

pub add_entries_outside-requires-clause-accumulator : goal.add_entries_outside-requires-clause-accumulator
add_entries_outside-requires-clause-accumulator g c = rw (c.deref_mut.ensures.value, c.deref_mut-2.ensures.value, c.deref_mut-3.ensures.value) c.self.invariant.0

pub invariant_of-self : goal.invariant_of-self
invariant_of-self g c =
    let sums = written c.self.inside.sums.len c.add_entries_outside.new.sums c.self.inside.sums.items (c.add_entries_outside.ensures.length ∙ c.deref_mut.ensures.len) in
    let marks = written c.self.inside.marks.len c.add_entries_outside.new.marks c.self.inside.marks.items (c.add_entries_outside.auto.marks ∙ c.deref_mut-2.ensures.len) in
    let groups = written c.self.inside.groups.len c.add_entries_outside.new.groups c.self.inside.groups.items (c.add_entries_outside.auto.groups ∙ c.deref_mut-3.ensures.len) in
    rw (sums, marks, groups) (c.add_entries_outside.ensures.accumulator, zero_wider _ _ _ _ _ _ _ (rw c.deref_mut-3.ensures.value at c.add_entries_outside.ensures.groups) c.widened.ensures.first c.widened.ensures.end c.widened.ensures.rows c.self.invariant.1)

pub returns-clause-length : goal.returns-clause-length
returns-clause-length g c =
    let sums = written c.self.inside.sums.len c.add_entries_outside.new.sums c.self.inside.sums.items (c.add_entries_outside.ensures.length ∙ c.deref_mut.ensures.len) in
    rw (sums, ← c.self.view_is) (rw c.deref_mut.ensures.value at c.add_entries_outside.ensures.length)

pub returns-clause-values : goal.returns-clause-values
returns-clause-values g c =
    let sums = written c.self.inside.sums.len c.add_entries_outside.new.sums c.self.inside.sums.items (c.add_entries_outside.ensures.length ∙ c.deref_mut.ensures.len) in
    rw sums c.add_entries_outside.ensures.accumulator.values

pub returns-clause-sums : goal.returns-clause-sums
returns-clause-sums g c =
    let sums = written c.self.inside.sums.len c.add_entries_outside.new.sums c.self.inside.sums.items (c.add_entries_outside.ensures.length ∙ c.deref_mut.ensures.len) in
    rw (sums, ← c.self.view_is) (rw c.deref_mut.ensures.value at c.add_entries_outside.ensures.sums)
