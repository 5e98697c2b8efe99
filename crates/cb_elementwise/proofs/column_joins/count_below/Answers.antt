use Rattle.cb_elementwise.proofs.Searches.{below_found, below_missed}
use Rattle.cb_elementwise.proofs.column_joins.count_below.Goals as goal

pub returns-in-Ok-clause-below : goal.returns-in-Ok-clause-below
returns-in-Ok-clause-below c = below_found c.args.rows.now c.requires.ascending c.args.from c.args.end c.requires.order c.requires.within c.args.row c.in-Ok.n c.in-Ok.ensures.position

pub returns-in-Err-clause-below : goal.returns-in-Err-clause-below
returns-in-Err-clause-below c = below_missed c.args.rows.now c.requires.ascending c.args.from c.args.end c.requires.order c.requires.within c.args.row c.in-Err.n c.in-Err.ensures.position
