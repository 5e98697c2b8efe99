use Rattle.std.proofs.Common.{arith}
use Rattle.std.proofs.lemmas.Fmt.{length-decimal-le}
use Rattle.cb_market_pages.proofs.runs.put_one.Goals as goal

pub put_number-requires : goal.put_number-requires
put_number-requires c =
    let row = length-decimal-le 10 c.args.row (omega arith) (omega arith) (omega (arith, c.requires.row)) in
    omega (arith, row, c.put_number-end.ensures.end, c.put_bytes-end.ensures.end, c.requires.room, c.requires.column, c.put_bytes-end.auto.buffer, c.put_number-end.auto.buffer)

pub returns-in-PlaceAndValue-clause-limit : goal.returns-in-PlaceAndValue-clause-limit
returns-in-PlaceAndValue-clause-limit c =
    let row = length-decimal-le 10 c.args.row (omega arith) (omega arith) (omega (arith, c.requires.row)) in
    omega (arith, row, c.put_number-end.ensures.end, c.put_bytes-end.ensures.end, c.requires.column, c.put_number.ensures.limit)
