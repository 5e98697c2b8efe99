use Rattle.std.proofs.Common.{rules}
use Rattle.cb_market_lines.proofs.NumberLines.{number_ends}
use Rattle.cb_market_lines.proofs.plain_lines.number_before.Goals as goal

pub returns-then-not-is_ascii_digit : goal.returns-then-not-is_ascii_digit
returns-then-not-is_ascii_digit c = number_ends c.args.text.now c.loop-rest.rest.now c.args.end c.loop-rest.number (search rules) (search rules) (search rules) c.loop-rest.invariant.after (search rules) c.loop-rest.invariant.number_is
