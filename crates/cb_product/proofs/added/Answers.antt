use Rattle.std.proofs.Common.{◌<◌, ap, subst}
use Rattle.std.specs.Prelude.{All, Contains}
use Rattle.std.proofs.lemmas.List.Elements.{All-weaker}
use Rattle.cb_matrix.specs.declared.Entry.{Entry}
use Rattle.cb_matrix.specs.Sparse.{Extent}
use Rattle.cb_product.proofs.added.Goals as goal

pub accumulate-requires-clause-within : goal.accumulate-requires-clause-within
accumulate-requires-clause-within g c =
    let cols = ap (λ (e : Extent). e.cols) c.requires.shape in
    let left = subst (λ n. All (λ k. k < n) c.column_numbers.result.now) cols c.column_numbers.ensures.inside in
    rw c.deref.ensures.value (c.in_ok-columns.ensures.within c.args.right.now.shape.cols left c.column_numbers-2.ensures.inside)

pub accumulate-requires-clause-accumulator_columns : goal.accumulate-requires-clause-accumulator_columns
accumulate-requires-clause-accumulator_columns g c =
    rw c.deref.ensures.value (All-weaker (λ (e : Entry). Contains c.column_numbers.result.now e.column) (λ (e : Entry). Contains c.in_ok-columns.columns.items e.column) (λ e h. c.in_ok-columns.ensures.left e.column h) c.args.accumulator.now.entries c.column_numbers.ensures.all)

pub accumulate-requires-clause-right_columns : goal.accumulate-requires-clause-right_columns
accumulate-requires-clause-right_columns g c =
    rw c.deref.ensures.value (All-weaker (λ (e : Entry). Contains c.column_numbers-2.result.now e.column) (λ (e : Entry). Contains c.in_ok-columns.columns.items e.column) (λ e h. c.in_ok-columns.ensures.right e.column h) c.args.right.now.entries c.column_numbers-2.ensures.all)
