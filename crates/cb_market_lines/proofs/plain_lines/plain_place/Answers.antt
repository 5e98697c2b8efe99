use Rattle.cb_market_lines.proofs.NumberLines.{place_is}
use Rattle.cb_market_lines.proofs.plain_lines.plain_place.Goals as goal

pub returns : goal.returns
returns c = place_is c.args.text.now c.in-Some.after.text.now c.in-Some.row c.in_ok-column.column c.in_ok-column.rest.now c.in-Some.ensures.before c.in_ok-column.ensures
