use Rattle.std.proofs.Common.{ap}
use Rattle.cb_dcsc.specs.Columns.{rows_of, values_of}
use Rattle.cb_product.proofs.AbsentColumns.{nothing_there}
use Rattle.cb_product.proofs.columns.of_next.Goals as goal

pub returns-in-None-clause-rows : goal.returns-in-None-clause-rows
returns-in-None-clause-rows g c =
    ap rows_of (nothing_there c.args.column c.args.block.now.entries c.column_numbers.result.now c.column_numbers.ensures.all c.in-None.ensures.none)

pub returns-in-None-clause-values : goal.returns-in-None-clause-values
returns-in-None-clause-values g c =
    ap values_of (nothing_there c.args.column c.args.block.now.entries c.column_numbers.result.now c.column_numbers.ensures.all c.in-None.ensures.none)
