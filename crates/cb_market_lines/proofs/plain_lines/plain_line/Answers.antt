use Rattle.cb_market_lines.proofs.NumberLines.{plain_is}
use Rattle.cb_market_lines.proofs.plain_lines.plain_line.Goals as goal

pub returns : goal.returns
returns c =
    let place = c.in-Some.ensures in
    plain_is c.args.text.now place.second c.in-Some.after.text.now c.in-Some.row c.in-Some.column c.in_ok-value.value c.in_ok-value.rest.now place.row_is place.column_is c.in_ok-value.ensures
