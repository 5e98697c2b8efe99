use Rattle.cb_market_lines.proofs.NumberLines.{place_is}
use Rattle.cb_market_lines.proofs.plain_lines.place_by_digits.Goals as goal

pub returns : goal.returns
returns c = place_is c.args.text.now c.in_ok-row.rest.now c.in_ok-row.row c.in_ok-column.column c.in_ok-column.rest.now c.in_ok-row.ensures c.in_ok-column.ensures
