use Rattle.std.proofs.Common.{arith}
use Rattle.cb_searches.proofs.numbers.Numbers.begin.Goals as goal

pub returns-clause-numbers : goal.returns-clause-numbers
returns-clause-numbers c = c.in_ok-set.ensures.numbers c.args.vertices c.in_ok-known.ensures.numbers c.requires (omega arith)
