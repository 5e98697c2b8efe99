use Rattle.std.proofs.Common.{ap, ◌∙◌}
use Rattle.std.specs.Prelude.{IfOk}
use Rattle.cb_search_columns.proofs.LowerBlocks.{one_number}
use Rattle.cb_search_columns.proofs.source_column.Goals as goal

pub returns : goal.returns
returns c = one_number c.args.shape c.args.source c.requires c.column_shape.result c.column_shape.ensures c.from_ordered.result c.from_ordered.ensures
