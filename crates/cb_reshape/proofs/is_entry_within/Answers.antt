use Rattle.cb_reshape.proofs.Within.{row_tested}
use Rattle.cb_reshape.proofs.is_entry_within.Goals as goal

pub returns : goal.returns
returns c = row_tested c.args.rows c.args.entry.now.row c.is_within.result c.is_within.ensures.0 c.is_within.ensures.1
