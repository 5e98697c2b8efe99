use Rattle.std.proofs.Common.{rules, ◌∙◌, ap, sym, ◌∷◌, List, ℕ}
use Rattle.cb_market_lines.specs.Cursor.{line_at}
use Rattle.cb_market_lines.proofs.Cursor.{begins_line}
use Rattle.cb_market_lines.proofs.Bodies.{header_ok}
use Rattle.cb_market_lines.proofs.HeaderWords.{blank_header, no_header, other_count, other_banner, unsupported}
use Rattle.cb_market_lines.proofs.scanner.Scanner.header.Goals as goal

pub returns-then-is_word_end-clause-fault : goal.returns-then-is_word_end-clause-fault
returns-then-is_word_end-clause-fault g c = blank_header g.S.Semiring.arithmetic _ _ (begins_line c.args.self.now.rest.now ∙ sym c.is_word_end.ensures ∙ c.if-is_word_end.true)

pub returns-in_default-clause-fault : goal.returns-in_default-clause-fault
returns-in_default-clause-fault g c = no_header g.S.Semiring.arithmetic _ _ c.in_default.ensures.word

pub returns-in_default-last_four-clause-fault : goal.returns-in_default-last_four-clause-fault
returns-in_default-last_four-clause-fault g c = other_count g.S.Semiring.arithmetic _ _ _ _ c.in-Some.ensures.word c.in_default-last_four.ensures.none

pub returns-then-not-is_exactly-clause-fault : goal.returns-then-not-is_exactly-clause-fault
returns-then-not-is_exactly-clause-fault g c = other_banner g.S.Semiring.arithmetic _ _ _ _ c.in-Some.ensures.word (search rules)

pub returns-in_default-header_of-clause-fault : goal.returns-in_default-header_of-clause-fault
returns-in_default-header_of-clause-fault g c =
    let starts = begins_line c.args.self.now.rest.now ∙ sym c.is_word_end.ensures ∙ c.if-is_word_end.false in
    let all = c.in-Some.ensures.word ∙ ap (λ (ws : List (List ℕ)). c.in-Some.banner.bytes.now ∷ ws) c.in-Some-last_four.ensures.some in
    unsupported g.S.Semiring.arithmetic _ _ _ _ _ _ _ starts all (search rules) c.in_default-header_of.ensures.none

pub returns-clause-ok : goal.returns-clause-ok
returns-clause-ok g c =
    let starts = begins_line c.args.self.now.rest.now ∙ sym c.is_word_end.ensures ∙ c.if-is_word_end.false in
    let all = c.in-Some.ensures.word ∙ ap (λ (ws : List (List ℕ)). c.in-Some.banner.bytes.now ∷ ws) c.in-Some-last_four.ensures.some in
    header_ok g.S.Semiring.arithmetic (line_at c.args.self.now.rest.now) _ _ _ _ _ c.in-Some-header_of.header starts all (search rules) c.in-Some-header_of.ensures.some.0 c.in-Some-header_of.ensures.some.1

pub returns-in_default-clause-after : goal.returns-in_default-clause-after
returns-in_default-clause-after g c = c.word.ensures.after

pub returns-in_default-clause-line : goal.returns-in_default-clause-line
returns-in_default-clause-line g c = c.word.ensures.line

pub returns-in_default-last_four-clause-after : goal.returns-in_default-last_four-clause-after
returns-in_default-last_four-clause-after g c = c.last_four.ensures.after ∙ c.word.ensures.after

pub returns-in_default-last_four-clause-line : goal.returns-in_default-last_four-clause-line
returns-in_default-last_four-clause-line g c = c.last_four.ensures.line ∙ c.word.ensures.line

pub returns-then-not-is_exactly-clause-after : goal.returns-then-not-is_exactly-clause-after
returns-then-not-is_exactly-clause-after g c = c.last_four.ensures.after ∙ c.word.ensures.after

pub returns-then-not-is_exactly-clause-line : goal.returns-then-not-is_exactly-clause-line
returns-then-not-is_exactly-clause-line g c = c.last_four.ensures.line ∙ c.word.ensures.line

pub returns-in_default-header_of-clause-after : goal.returns-in_default-header_of-clause-after
returns-in_default-header_of-clause-after g c = c.last_four.ensures.after ∙ c.word.ensures.after

pub returns-in_default-header_of-clause-line : goal.returns-in_default-header_of-clause-line
returns-in_default-header_of-clause-line g c = c.last_four.ensures.line ∙ c.word.ensures.line

pub returns-clause-after : goal.returns-clause-after
returns-clause-after g c = c.last_four.ensures.after ∙ c.word.ensures.after

pub returns-clause-line : goal.returns-clause-line
returns-clause-line g c = c.last_four.ensures.line ∙ c.word.ensures.line
