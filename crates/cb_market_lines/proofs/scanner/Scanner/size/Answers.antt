use Rattle.std.proofs.Common.{arith, length, ap, sym, ◌∙◌, ◌∷◌, List, ℕ}
use Rattle.cb_market_lines.specs.Cursor.{words_at}
use Rattle.cb_market_lines.specs.declared.words.Word.{Word}
use Rattle.cb_market_lines.proofs.EntryWords.{first_left, none_left}
use Rattle.cb_market_lines.proofs.HeaderWords.{other_size, size_written, size_faulty}
use Rattle.cb_market_lines.proofs.scanner.Scanner.size.Goals as goal

pub returns-in_default-clause-fault : goal.returns-in_default-clause-fault
returns-in_default-clause-fault c = other_size c.args.header c.args.first.now.bytes.now _ (λ h. omega (arith, h, c.in_default.ensures.none))

pub returns-then-is_some-clause-fault : goal.returns-then-is_some-clause-fault
returns-then-is_some-clause-fault c =
    let left = words_at c.two_words.new.self.rest.now in
    let found = first_left c.word.result (λ (w : Word). w.bytes.now) left (words_at c.word.new.self.rest.now) (sym c.is_some.ensures ∙ c.if-is_some.true) c.word.ensures.word in
    other_size c.args.header c.args.first.now.bytes.now _ (λ h. omega (arith, h, ap length c.in-Some.ensures.some, ap length found.1))

pub returns-clause-ok : goal.returns-clause-ok
returns-clause-ok c =
    let left = words_at c.two_words.new.self.rest.now in
    let none = none_left c.word.result (λ (w : Word). w.bytes.now) left (words_at c.word.new.self.rest.now) (sym c.is_some.ensures ∙ c.if-is_some.false) c.word.ensures.word in
    let all = c.in-Some.ensures.some ∙ ap (λ (ws : List (List ℕ)). c.in-Some.second.bytes.now ∷ c.in-Some.third.bytes.now ∷ ws) none in
    size_written c.args.header c.args.first.now.bytes.now _ c.size_of.result c.in-Some.second.bytes.now c.in-Some.third.bytes.now all c.size_of.ensures.ok

pub returns-clause-fault : goal.returns-clause-fault
returns-clause-fault c =
    let left = words_at c.two_words.new.self.rest.now in
    let none = none_left c.word.result (λ (w : Word). w.bytes.now) left (words_at c.word.new.self.rest.now) (sym c.is_some.ensures ∙ c.if-is_some.false) c.word.ensures.word in
    let all = c.in-Some.ensures.some ∙ ap (λ (ws : List (List ℕ)). c.in-Some.second.bytes.now ∷ c.in-Some.third.bytes.now ∷ ws) none in
    size_faulty c.args.header c.args.first.now.bytes.now _ c.size_of.result c.in-Some.second.bytes.now c.in-Some.third.bytes.now all c.size_of.ensures.fault

pub returns-in_default-clause-after : goal.returns-in_default-clause-after
returns-in_default-clause-after c = c.two_words.ensures.after

pub returns-in_default-clause-line : goal.returns-in_default-clause-line
returns-in_default-clause-line c = c.two_words.ensures.line

pub returns-then-is_some-clause-after : goal.returns-then-is_some-clause-after
returns-then-is_some-clause-after c = c.word.ensures.after ∙ c.two_words.ensures.after

pub returns-then-is_some-clause-line : goal.returns-then-is_some-clause-line
returns-then-is_some-clause-line c = c.word.ensures.line ∙ c.two_words.ensures.line

pub returns-clause-after : goal.returns-clause-after
returns-clause-after c = c.word.ensures.after ∙ c.two_words.ensures.after

pub returns-clause-line : goal.returns-clause-line
returns-clause-line c = c.word.ensures.line ∙ c.two_words.ensures.line
