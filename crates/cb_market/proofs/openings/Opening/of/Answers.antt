use Rattle.std.proofs.Common.{rules, arith, ◌∙◌, ap, ◌<◌, ◌≡◌, length}
use Rattle.cb_market_lines.specs.Cursor.{after_line}
use Rattle.cb_market_lines.specs.Lines.{lines}
use Rattle.cb_market_lines.proofs.Cursor.{lines-le, after_line-lt}
use Rattle.cb_market.proofs.LongerTexts.{opens}
use Rattle.cb_market.proofs.openings.Opening.of.Goals as goal

pub size_of_entries-requires : goal.size_of_entries-requires
size_of_entries-requires g c =
    let some : 0 < length c.args.text.now = search rules in
    let start : c.new-scanner.result.rest.now ≡ c.args.text.now = c.new-scanner.ensures.rest in
    let rest = c.next_line.ensures.rest ∙ c.header.ensures.after ∙ ap after_line start in
    omega (arith, ap (λ l. length (lines l)) rest, lines-le (after_line c.args.text.now), after_line-lt c.args.text.now some, c.next_line.ensures.line, c.header.ensures.line, c.new-scanner.ensures.line)

pub returns : goal.returns
returns g c =
    let some : 0 < length c.args.text.now = search rules in
    let line : c.next_line.new.self.line ≡ 2 = omega (arith, c.next_line.ensures.line, c.header.ensures.line, c.new-scanner.ensures.line) in
    let rest = c.next_line.ensures.rest ∙ c.header.ensures.after in
    opens g.S.Semiring.arithmetic c.args.text.now c.new-scanner.result.rest.now c.next_line.new.self.rest.now c.in-Ok.header c.next_line.new.self.line c.in-Some.size c.size_of_entries.new.scanner.line c.size_of_entries.new.scanner.rest.now
    some c.new-scanner.ensures.rest line rest c.in-Ok.ensures.ok.0 c.in-Ok.ensures.ok.1 c.in-Some.ensures.shape c.in-Some.ensures.body
