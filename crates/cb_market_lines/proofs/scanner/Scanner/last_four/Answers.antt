use Rattle.std.proofs.Common.{arith, length, ap, sym, ◌∙◌, ◌∷◌, List, ℕ}
use Rattle.cb_market_lines.specs.Cursor.{words_at}
use Rattle.cb_market_lines.specs.declared.words.Word.{Word}
use Rattle.cb_market_lines.proofs.EntryWords.{first_left, none_left}
use Rattle.cb_market_lines.proofs.scanner.Scanner.last_four.Goals as goal

pub returns-in_default-clause-none : goal.returns-in_default-clause-none
returns-in_default-clause-none c = λ h. omega (arith, h, c.in_default.ensures.none)

pub returns-in_default-clause-after : goal.returns-in_default-clause-after
returns-in_default-clause-after c = c.two_words.ensures.after

pub returns-in_default-clause-line : goal.returns-in_default-clause-line
returns-in_default-clause-line c = c.two_words.ensures.line

pub returns-in_default-two_words-clause-none : goal.returns-in_default-two_words-clause-none
returns-in_default-two_words-clause-none c = λ h. omega (arith, h, ap length c.in-Some.ensures.some, c.in_default-two_words.ensures.none)

pub returns-in_default-two_words-clause-after : goal.returns-in_default-two_words-clause-after
returns-in_default-two_words-clause-after c = c.two_words-2.ensures.after ∙ c.two_words.ensures.after

pub returns-in_default-two_words-clause-line : goal.returns-in_default-two_words-clause-line
returns-in_default-two_words-clause-line c = c.two_words-2.ensures.line ∙ c.two_words.ensures.line

pub returns-then-is_some-clause-none : goal.returns-then-is_some-clause-none
returns-then-is_some-clause-none c =
    let left = words_at c.two_words-2.new.self.rest.now in
    let found = first_left c.word.result (λ (w : Word). w.bytes.now) left (words_at c.word.new.self.rest.now) (sym c.is_some.ensures ∙ c.if-is_some.true) c.word.ensures.word in
    λ h. omega (arith, h, ap length c.in-Some.ensures.some, ap length c.in-Some-two_words.ensures.some, ap length found.1)

pub returns-then-is_some-clause-after : goal.returns-then-is_some-clause-after
returns-then-is_some-clause-after c = c.word.ensures.after ∙ c.two_words-2.ensures.after ∙ c.two_words.ensures.after

pub returns-then-is_some-clause-line : goal.returns-then-is_some-clause-line
returns-then-is_some-clause-line c = c.word.ensures.line ∙ c.two_words-2.ensures.line ∙ c.two_words.ensures.line

pub returns-clause-some : goal.returns-clause-some
returns-clause-some c =
    let left = words_at c.two_words-2.new.self.rest.now in
    let none = none_left c.word.result (λ (w : Word). w.bytes.now) left (words_at c.word.new.self.rest.now) (sym c.is_some.ensures ∙ c.if-is_some.false) c.word.ensures.word in
    let second = c.in-Some-two_words.ensures.some ∙ ap (λ (ws : List (List ℕ)). c.in-Some-two_words.field.bytes.now ∷ c.in-Some-two_words.symmetry.bytes.now ∷ ws) none in
    c.in-Some.ensures.some ∙ ap (λ (ws : List (List ℕ)). c.in-Some.object.bytes.now ∷ c.in-Some.format.bytes.now ∷ ws) second

pub returns-clause-after : goal.returns-clause-after
returns-clause-after c = c.word.ensures.after ∙ c.two_words-2.ensures.after ∙ c.two_words.ensures.after

pub returns-clause-line : goal.returns-clause-line
returns-clause-line c = c.word.ensures.line ∙ c.two_words-2.ensures.line ∙ c.two_words.ensures.line
