use Rattle.cb_dcsc.proofs.ColumnEntries.{entries_in_none, entries_in_more, entries_in_all}
use Rattle.cb_dcsc.proofs.append_column.Goals as goal

pub loop-n-init : goal.loop-n-init
loop-n-init c = entries_in_none _ _ c.args.rows.now c.args.values.now

pub loop-n-preserved : goal.loop-n-preserved
loop-n-preserved c = entries_in_more _ _ c.args.column c.args.rows.now c.args.values.now c.loop-n.n _ c.requires c.loop-n-test.true c.loop-n.invariant c.in_ok-push.ensures.items

pub returns : goal.returns
returns c = entries_in_all _ _ c.args.column c.args.rows.now c.args.values.now c.loop-n.n c.requires c.loop-n-test.false c.loop-n.invariant
