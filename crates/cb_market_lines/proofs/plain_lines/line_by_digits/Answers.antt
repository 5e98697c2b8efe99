use Rattle.cb_market_lines.proofs.NumberLines.{plain_is}
use Rattle.cb_market_lines.proofs.plain_lines.line_by_digits.Goals as goal

pub returns : goal.returns
returns c = plain_is c.args.text.now c.in_ok-row.rest.now c.in_ok-column.rest.now c.in_ok-row.row c.in_ok-column.column c.in_ok-value.value c.in_ok-value.rest.now c.in_ok-row.ensures c.in_ok-column.ensures c.in_ok-value.ensures
