use Rattle.std.proofs.Common.{rules, arith, ◌<◌, ◌^◌, length, ap}
use Rattle.cb_market_lines.specs.Lines.{lines}
use Rattle.cb_market_lines.proofs.Cursor.{lines-le}
use Rattle.cb_market.proofs.pieces.read_lines.Goals as goal

pub remaining_entries-requires-clause-lines : goal.remaining_entries-requires-clause-lines
remaining_entries-requires-clause-lines g c =
    let small : length c.args.piece.now < 2 ^ 63 = search rules in
    omega (arith, small, lines-le c.args.piece.now, ap (λ l. length (lines l)) c.new-scanner.ensures.rest, c.new-scanner.ensures.line)
