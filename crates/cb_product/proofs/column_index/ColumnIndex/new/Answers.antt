use Rattle.cb_product.specs.ColumnStarts.{IsNoted}
use Rattle.cb_product.proofs.AbsentColumns.{all_columns}
use Rattle.cb_product.proofs.column_index.ColumnIndex.new.Goals as goal

pub returns-then-columns-asked : goal.returns-then-columns-asked
returns-then-columns-asked g c =
    all_columns (IsNoted c.in_ok-places.places.items c.min-shift.result) c.column_numbers.result.now c.args.block.now.entries c.column_numbers.ensures.all c.in_ok-places.ensures
