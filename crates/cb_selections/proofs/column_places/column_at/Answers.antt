use Rattle.std.proofs.Common.{ap}
use Rattle.cb_dcsc.specs.Columns.{rows_of, values_of}
use Rattle.cb_product.proofs.AbsentColumns.{nothing_there}
use Rattle.cb_selections.proofs.column_places.column_at.Goals as goal

pub returns-then-is_missing-clause-rows : goal.returns-then-is_missing-clause-rows
returns-then-is_missing-clause-rows g c =
    let columns = c.column_numbers-columns in
    ap rows_of (nothing_there c.args.column c.args.block.now.entries columns.result.now columns.ensures.all (c.is_missing.ensures c.if-is_missing.true))

pub returns-then-is_missing-clause-values : goal.returns-then-is_missing-clause-values
returns-then-is_missing-clause-values g c =
    let columns = c.column_numbers-columns in
    ap values_of (nothing_there c.args.column c.args.block.now.entries columns.result.now columns.ensures.all (c.is_missing.ensures c.if-is_missing.true))
