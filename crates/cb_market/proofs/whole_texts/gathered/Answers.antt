use Rattle.std.proofs.Common.{rules, arith, ℕ, zero, suc, Bool, false, ◌==◌, ◌∙◌, ap, sym, ◌<◌, ◌≤◌, ◌≡◌, ◌+◌, length}
use Rattle.std.proofs.lemmas.Bool.{false≢true}
use Rattle.cb_matrix.specs.Values.{collected}
use Rattle.cb_market_lines.specs.Cursor.{after_line}
use Rattle.cb_market_lines.specs.Lines.{lines}
use Rattle.cb_market_lines.proofs.Bodies.{read_empty, read_header, read_fault, read_ok}
use Rattle.cb_market_lines.proofs.Law.{text_says}
use Rattle.cb_market_lines.proofs.Cursor.{lines-le, lines_more, after_line-lt}
use Rattle.cb_market.proofs.whole_texts.gathered.Goals as goal

-- a text that isn't empty has a byte
not_empty : (n : ℕ) (empty : Bool) → empty ≡ (n == 0) → empty ≡ false → 0 < n
not_empty zero empty e f = absurd (false≢true (sym f ∙ e))
not_empty (suc n) empty e f = omega arith

pub returns-then-is_empty-clause-fault : goal.returns-then-is_empty-clause-fault
returns-then-is_empty-clause-fault g c = read_empty g.S.Semiring.arithmetic c.args.text.now (search rules)

pub returns-in-Err-clause-fault : goal.returns-in-Err-clause-fault
returns-in-Err-clause-fault g c = read_header g.S.Semiring.arithmetic c.args.text.now c.new-scanner.result.rest.now c.in-Err.kind (search rules) (search rules) c.in-Err.ensures.fault

pub body-requires : goal.body-requires
body-requires g c =
    let some = not_empty (length c.args.text.now) c.is_empty.result c.is_empty.ensures c.if-is_empty.false in
    let start : c.new-scanner.result.rest.now ≡ c.args.text.now = c.new-scanner.ensures.rest in
    let rest = c.next_line.ensures.rest ∙ c.header.ensures.after ∙ ap after_line start in
    omega (arith, ap (λ l. length (lines l)) rest, lines-le (after_line c.args.text.now), after_line-lt c.args.text.now some, c.next_line.ensures.line, c.header.ensures.line, c.new-scanner.ensures.line)

pub returns-clause-ok : goal.returns-clause-ok
returns-clause-ok g c =
    let s = g.S.Semiring.arithmetic in
    let some = not_empty (length c.args.text.now) c.is_empty.result c.is_empty.ensures c.if-is_empty.false in
    let line : c.next_line.new.self.line ≡ 2 = omega (arith, c.next_line.ensures.line, c.header.ensures.line, c.new-scanner.ensures.line) in
    let rest = c.next_line.ensures.rest ∙ c.header.ensures.after in
    let m = collected s c.in_ok-entries.entries.shape c.in_ok-entries.entries.entries in
    text_says s c.args.text.now m (read_ok s c.args.text.now c.new-scanner.result.rest.now c.next_line.new.self.rest.now c.in-Ok.header c.next_line.new.self.line m some c.new-scanner.ensures.rest line rest c.in-Ok.ensures.ok.0 c.in-Ok.ensures.ok.1 c.in_ok-entries.ensures.none c.in_ok-entries.ensures.matrix)

pub returns-clause-end : goal.returns-clause-end
returns-clause-end g c =
    let some = not_empty (length c.args.text.now) c.is_empty.result c.is_empty.ensures c.if-is_empty.false in
    let line : c.next_line.new.self.line ≡ 2 = omega (arith, c.next_line.ensures.line, c.header.ensures.line, c.new-scanner.ensures.line) in
    let start : c.new-scanner.result.rest.now ≡ c.args.text.now = c.new-scanner.ensures.rest in
    let rest = c.next_line.ensures.rest ∙ c.header.ensures.after ∙ ap after_line start in
    let count = lines_more c.args.text.now some ∙ ap (λ l. 1 + length (lines l)) (sym rest) in
    omega (arith, c.in_ok-entries.ensures.end, line, count)

pub returns-in_err-entries-clause-fault : goal.returns-in_err-entries-clause-fault
returns-in_err-entries-clause-fault g c =
    let some = not_empty (length c.args.text.now) c.is_empty.result c.is_empty.ensures c.if-is_empty.false in
    let line : c.next_line.new.self.line ≡ 2 = omega (arith, c.next_line.ensures.line, c.header.ensures.line, c.new-scanner.ensures.line) in
    let rest = c.next_line.ensures.rest ∙ c.header.ensures.after in
    let fault = read_fault g.S.Semiring.arithmetic c.args.text.now c.new-scanner.result.rest.now c.next_line.new.self.rest.now c.in-Ok.header c.next_line.new.self.line _ some c.new-scanner.ensures.rest line rest c.in-Ok.ensures.ok.0 c.in-Ok.ensures.ok.1 c.in_err-entries.ensures.fault in
    search (rules, fault, c.from_residual.ensures)

pub returns-in_err-entries-clause-line : goal.returns-in_err-entries-clause-line
returns-in_err-entries-clause-line g c =
    let some = not_empty (length c.args.text.now) c.is_empty.result c.is_empty.ensures c.if-is_empty.false in
    let line : c.next_line.new.self.line ≡ 2 = omega (arith, c.next_line.ensures.line, c.header.ensures.line, c.new-scanner.ensures.line) in
    let start : c.new-scanner.result.rest.now ≡ c.args.text.now = c.new-scanner.ensures.rest in
    let rest = c.next_line.ensures.rest ∙ c.header.ensures.after ∙ ap after_line start in
    let count = lines_more c.args.text.now some ∙ ap (λ l. 1 + length (lines l)) (sym rest) in
    let place = c.in_err-entries.ensures.place in
    let first : 1 ≤ c.in_err-entries.field-0.0.line = omega (arith, place.0, line) in
    let last : c.in_err-entries.field-0.0.line ≤ 1 + length (lines c.args.text.now) = omega (arith, place.1, line, count) in
    search (rules, first, last, c.from_residual.ensures)
