use Rattle.cb_dcsc.proofs.FirstFrom.{found_below, found_from, missed_below, missed_from}
use Rattle.cb_dcsc.proofs.column_ranges.first_from.Goals as goal

pub returns-in-Ok-clause-below : goal.returns-in-Ok-clause-below
returns-in-Ok-clause-below c = found_below c.args.numbers.now c.args.bound c.in-Ok.n c.requires c.in-Ok.ensures.bound (c.in-Ok.ensures.ok 0)

pub returns-in-Ok-clause-from : goal.returns-in-Ok-clause-from
returns-in-Ok-clause-from c = found_from c.args.numbers.now c.args.bound c.in-Ok.n c.requires c.in-Ok.ensures.bound (c.in-Ok.ensures.ok 0)

pub returns-in-Err-clause-below : goal.returns-in-Err-clause-below
returns-in-Err-clause-below c = missed_below c.args.numbers.now c.args.bound c.in-Err.n c.requires c.in-Err.ensures.position

pub returns-in-Err-clause-from : goal.returns-in-Err-clause-from
returns-in-Err-clause-from c = missed_from c.args.numbers.now c.args.bound c.in-Err.n c.requires c.in-Err.ensures.position
