use Rattle.std.proofs.Common.{rules, arith, ◌+◌, length}
use Rattle.cb_market_lines.specs.Lines.{lines, kept_from}
use Rattle.cb_market_lines.specs.Cursor.{after_line}
use Rattle.cb_market_lines.proofs.LineFaults.{no_room, kept_numbers}
use Rattle.cb_market.proofs.whole_texts.after_size.Goals as goal

pub returns-in_default-clause-fault : goal.returns-in_default-clause-fault
returns-in_default-clause-fault g c =
    no_room g.S.Semiring.arithmetic c.args.header c.args.size.shape (c.args.scanner.now.line + 1 + length (lines (after_line c.args.scanner.now.rest.now))) c.args.scanner.now.line c.args.size.count (kept_from (c.args.scanner.now.line + 1) (after_line c.args.scanner.now.rest.now)) c.fault-refused.result (kept_numbers (c.args.scanner.now.line + 1) (after_line c.args.scanner.now.rest.now)) (omega arith) (search rules)
