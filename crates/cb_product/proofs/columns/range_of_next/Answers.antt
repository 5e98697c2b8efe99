use Rattle.cb_product.proofs.AbsentColumns.{nothing_there}
use Rattle.cb_product.proofs.columns.range_of_next.Goals as goal

pub returns-in-None-clause-entries : goal.returns-in-None-clause-entries
returns-in-None-clause-entries g c =
    nothing_there c.args.column c.args.block.now.entries c.column_numbers.result.now c.column_numbers.ensures.all c.in-None.ensures.none
