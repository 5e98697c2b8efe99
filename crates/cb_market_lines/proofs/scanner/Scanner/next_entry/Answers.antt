use Rattle.std.proofs.Common.{◌∷◌, ◌∙◌}
use Rattle.cb_market_lines.specs.Lines.{words}
use Rattle.cb_market_lines.specs.Cursor.{line_at}
use Rattle.cb_market_lines.proofs.NumberLines.{next_by_words, entry_found}
use Rattle.cb_market_lines.proofs.scanner.Scanner.next_entry.Goals as goal

pub returns-clause-some : goal.returns-clause-some
returns-clause-some g c =
    let s = g.S.Semiring.arithmetic in
    let first = c.in-Some-kept_line.first.bytes.now in
    let mid = c.kept_line.new.self.rest.now in
    next_by_words s c.args.header c.args.shape c.args.self.now.line c.plain_entry.new.self.line c.kept_line.new.self.line c.args.self.now.rest.now c.plain_entry.new.self.rest.now mid c.next_line.new.self.rest.now first c.entry-found.result
    c.in_default.ensures.none.0 c.in_default.ensures.none.1
    c.in-Some-kept_line.ensures.some c.in-Some-kept_line.ensures.count c.in-Some-kept_line.ensures.later c.in-Some-kept_line.ensures.shorter
    (entry_found s c.args.header c.args.shape (first ∷ words (line_at mid)) c.entry-found.result c.entry-found.ensures.ok c.entry-found.ensures.fault)
    (c.next_line.ensures.rest ∙ c.entry-found.ensures.after)
