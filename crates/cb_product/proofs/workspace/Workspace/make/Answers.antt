use Rattle.std.proofs.Common.{ap, ◌∙◌}
use Rattle.std.proofs.lemmas.Result.{on_ok_weaker}
use Rattle.cb_dcsc.specs.Columns.{row_value}
use Rattle.cb_dcsc.proofs.Lookup.{all_values}
use Rattle.cb_product.proofs.workspace.Workspace.make.Goals as goal

pub merge-requires-clause-values : goal.merge-requires-clause-values
merge-requires-clause-values g c = all_values g.S.Semiring.arithmetic c.args.left.now _ c.requires.left c.values-values.ensures

pub returns-clause-column : goal.returns-clause-column
returns-clause-column g c =
    let s = g.S.Semiring.arithmetic in
    let joined = rw (c.entries.ensures.rows, c.entries.ensures.values) at c.join.ensures in
    let merged = rw (c.row_numbers-rows.ensures, c.values-values.ensures) at c.in_ok-merge.ensures in
    on_ok_weaker c.join.result (λ h i. h i ∙ ap (s.add (row_value s.zero c.args.own_rows.now c.args.own_values.now i)) (merged i)) joined

pub returns-then-terms-eq1-clause-zeros : goal.returns-then-terms-eq1-clause-zeros
returns-then-terms-eq1-clause-zeros g c = on_ok_weaker c.make_of_one.result (λ h. rw c.make_of_one.ensures.sums c.requires.zeros) c.make_of_one.ensures.column

pub returns-then-terms-eq1-clause-column : goal.returns-then-terms-eq1-clause-column
returns-then-terms-eq1-clause-column g c = c.make_of_one.ensures.column

pub returns-then-terms-le-FEW-clause-zeros : goal.returns-then-terms-le-FEW-clause-zeros
returns-then-terms-le-FEW-clause-zeros g c = on_ok_weaker c.make_joined.result (λ h. rw c.make_joined.ensures.sums c.requires.zeros) c.make_joined.ensures.column

pub returns-then-terms-le-FEW-clause-column : goal.returns-then-terms-le-FEW-clause-column
returns-then-terms-le-FEW-clause-column g c = c.make_joined.ensures.column

pub join-requires-clause-lengths : goal.join-requires-clause-lengths
join-requires-clause-lengths g c = rw (c.entries.ensures.rows, c.entries.ensures.values) c.entries.ensures.column.same_length

pub join-requires-clause-values : goal.join-requires-clause-values
join-requires-clause-values g c = rw c.entries.ensures.values c.entries.ensures.column.are_values

pub join-requires-clause-order : goal.join-requires-clause-order
join-requires-clause-order g c = rw c.entries.ensures.rows c.entries.ensures.column.ascending

pub returns-clause-zeros : goal.returns-clause-zeros
returns-clause-zeros g c = on_ok_weaker c.join.result (λ h. c.requires.zeros) c.join.ensures
