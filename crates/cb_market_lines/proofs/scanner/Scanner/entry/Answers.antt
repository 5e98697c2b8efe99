use Rattle.std.proofs.Common.{◌∙◌, sym}
use Rattle.cb_market_lines.specs.Cursor.{words_at}
use Rattle.cb_market_lines.specs.declared.words.Word.{Word}
use Rattle.cb_market_lines.proofs.EntryWords.{first_left, none_left, one_word, two_words, four_words, three_words, integer_written, integer_faulty, pattern_written, pattern_faulty}
use Rattle.cb_market_lines.proofs.scanner.Scanner.entry.Goals as goal

pub returns-in_default-clause-fault : goal.returns-in_default-clause-fault
returns-in_default-clause-fault g c = one_word g.S.Semiring.arithmetic c.args.header c.args.shape c.args.first.now.bytes.now (words_at c.args.self.now.rest.now) c.in_default.ensures.word

pub returns-in_default-clause-after : goal.returns-in_default-clause-after
returns-in_default-clause-after g c = c.word.ensures.after

pub returns-in_default-clause-line : goal.returns-in_default-clause-line
returns-in_default-clause-line g c = c.word.ensures.line

pub returns-in_default-word-clause-fault : goal.returns-in_default-word-clause-fault
returns-in_default-word-clause-fault g c =
    two_words g.S.Semiring.arithmetic c.args.header c.args.shape c.args.first.now.bytes.now c.in-Some.second.bytes.now (words_at c.args.self.now.rest.now) (words_at c.word.new.self.rest.now) c.in-Integer.is c.in-Some.ensures.word c.in_default-word.ensures.word

pub returns-in_default-word-clause-after : goal.returns-in_default-word-clause-after
returns-in_default-word-clause-after g c = c.word-in-Integer.ensures.after ∙ c.word.ensures.after

pub returns-in_default-word-clause-line : goal.returns-in_default-word-clause-line
returns-in_default-word-clause-line g c = c.word-in-Integer.ensures.line ∙ c.word.ensures.line

pub returns-then-is_some-clause-fault : goal.returns-then-is_some-clause-fault
returns-then-is_some-clause-fault g c =
    let left = words_at c.word-in-Integer.new.self.rest.now in
    let last = words_at c.word-in-Integer-2.new.self.rest.now in
    let found = first_left c.word-in-Integer-2.result (λ (w : Word). w.bytes.now) left last (sym c.is_some.ensures ∙ c.if-is_some.true) c.word-in-Integer-2.ensures.word in
    four_words g.S.Semiring.arithmetic c.args.header c.args.shape c.args.first.now.bytes.now c.in-Some.second.bytes.now c.in-Some-word.third.bytes.now (words_at c.args.self.now.rest.now) (words_at c.word.new.self.rest.now) left last c.in-Integer.is c.in-Some.ensures.word c.in-Some-word.ensures.word found

pub returns-then-is_some-clause-after : goal.returns-then-is_some-clause-after
returns-then-is_some-clause-after g c = c.word-in-Integer-2.ensures.after ∙ c.word-in-Integer.ensures.after ∙ c.word.ensures.after

pub returns-then-is_some-clause-line : goal.returns-then-is_some-clause-line
returns-then-is_some-clause-line g c = c.word-in-Integer-2.ensures.line ∙ c.word-in-Integer.ensures.line ∙ c.word.ensures.line

pub returns-then-is_some-2-clause-fault : goal.returns-then-is_some-2-clause-fault
returns-then-is_some-2-clause-fault g c =
    let left = words_at c.word.new.self.rest.now in
    let last = words_at c.word-in-Pattern.new.self.rest.now in
    let found = first_left c.word-in-Pattern.result (λ (w : Word). w.bytes.now) left last (sym c.is_some-in-Pattern.ensures ∙ c.if-is_some-2.true) c.word-in-Pattern.ensures.word in
    three_words g.S.Semiring.arithmetic c.args.header c.args.shape c.args.first.now.bytes.now c.in-Some.second.bytes.now (words_at c.args.self.now.rest.now) left last c.in-Pattern.is c.in-Some.ensures.word found

pub returns-then-is_some-2-clause-after : goal.returns-then-is_some-2-clause-after
returns-then-is_some-2-clause-after g c = c.word-in-Pattern.ensures.after ∙ c.word.ensures.after

pub returns-then-is_some-2-clause-line : goal.returns-then-is_some-2-clause-line
returns-then-is_some-2-clause-line g c = c.word-in-Pattern.ensures.line ∙ c.word.ensures.line

pub returns-else-is_some-clause-ok : goal.returns-else-is_some-clause-ok
returns-else-is_some-clause-ok g c =
    let left = words_at c.word-in-Integer.new.self.rest.now in
    let none = none_left c.word-in-Integer-2.result (λ (w : Word). w.bytes.now) left (words_at c.word-in-Integer-2.new.self.rest.now) (sym c.is_some.ensures ∙ c.if-is_some.false) c.word-in-Integer-2.ensures.word in
    integer_written g.S.Semiring.arithmetic c.args.header c.args.shape c.args.first.now.bytes.now c.integer_entry.result c.in-Some.second.bytes.now c.in-Some-word.third.bytes.now (words_at c.args.self.now.rest.now) (words_at c.word.new.self.rest.now) left c.in-Integer.is c.in-Some.ensures.word c.in-Some-word.ensures.word none c.integer_entry.ensures.ok

pub returns-else-is_some-clause-fault : goal.returns-else-is_some-clause-fault
returns-else-is_some-clause-fault g c =
    let left = words_at c.word-in-Integer.new.self.rest.now in
    let none = none_left c.word-in-Integer-2.result (λ (w : Word). w.bytes.now) left (words_at c.word-in-Integer-2.new.self.rest.now) (sym c.is_some.ensures ∙ c.if-is_some.false) c.word-in-Integer-2.ensures.word in
    integer_faulty g.S.Semiring.arithmetic c.args.header c.args.shape c.args.first.now.bytes.now c.integer_entry.result c.in-Some.second.bytes.now c.in-Some-word.third.bytes.now (words_at c.args.self.now.rest.now) (words_at c.word.new.self.rest.now) left c.in-Integer.is c.in-Some.ensures.word c.in-Some-word.ensures.word none c.integer_entry.ensures.fault

pub returns-else-is_some-clause-after : goal.returns-else-is_some-clause-after
returns-else-is_some-clause-after g c = c.word-in-Integer-2.ensures.after ∙ c.word-in-Integer.ensures.after ∙ c.word.ensures.after

pub returns-else-is_some-clause-line : goal.returns-else-is_some-clause-line
returns-else-is_some-clause-line g c = c.word-in-Integer-2.ensures.line ∙ c.word-in-Integer.ensures.line ∙ c.word.ensures.line

pub returns-else-is_some-2-clause-ok : goal.returns-else-is_some-2-clause-ok
returns-else-is_some-2-clause-ok g c =
    let left = words_at c.word.new.self.rest.now in
    let none = none_left c.word-in-Pattern.result (λ (w : Word). w.bytes.now) left (words_at c.word-in-Pattern.new.self.rest.now) (sym c.is_some-in-Pattern.ensures ∙ c.if-is_some-2.false) c.word-in-Pattern.ensures.word in
    pattern_written g.S.Semiring.arithmetic c.args.header c.args.shape c.args.first.now.bytes.now c.pattern_entry.result c.in-Some.second.bytes.now (words_at c.args.self.now.rest.now) left c.in-Pattern.is c.in-Some.ensures.word none c.pattern_entry.ensures.ok

pub returns-else-is_some-2-clause-fault : goal.returns-else-is_some-2-clause-fault
returns-else-is_some-2-clause-fault g c =
    let left = words_at c.word.new.self.rest.now in
    let none = none_left c.word-in-Pattern.result (λ (w : Word). w.bytes.now) left (words_at c.word-in-Pattern.new.self.rest.now) (sym c.is_some-in-Pattern.ensures ∙ c.if-is_some-2.false) c.word-in-Pattern.ensures.word in
    pattern_faulty g.S.Semiring.arithmetic c.args.header c.args.shape c.args.first.now.bytes.now c.pattern_entry.result c.in-Some.second.bytes.now (words_at c.args.self.now.rest.now) left c.in-Pattern.is c.in-Some.ensures.word none c.pattern_entry.ensures.fault

pub returns-else-is_some-2-clause-after : goal.returns-else-is_some-2-clause-after
returns-else-is_some-2-clause-after g c = c.word-in-Pattern.ensures.after ∙ c.word.ensures.after

pub returns-else-is_some-2-clause-line : goal.returns-else-is_some-2-clause-line
returns-else-is_some-2-clause-line g c = c.word-in-Pattern.ensures.line ∙ c.word.ensures.line
