use Rattle.std.proofs.Common.{arith, length, ap, ◌∙◌, ◌∷◌, List, ℕ}
use Rattle.cb_market_lines.proofs.scanner.Scanner.two_words.Goals as goal

pub returns-in_default-clause-none : goal.returns-in_default-clause-none
returns-in_default-clause-none c = omega (arith, ap length c.in_default.ensures.word)

pub returns-in_default-clause-after : goal.returns-in_default-clause-after
returns-in_default-clause-after c = c.word.ensures.after

pub returns-in_default-clause-line : goal.returns-in_default-clause-line
returns-in_default-clause-line c = c.word.ensures.line

pub returns-in_default-word-clause-none : goal.returns-in_default-word-clause-none
returns-in_default-word-clause-none c = omega (arith, ap length c.in-Some.ensures.word, ap length c.in_default-word.ensures.word)

pub returns-in_default-word-clause-after : goal.returns-in_default-word-clause-after
returns-in_default-word-clause-after c = c.word-2.ensures.after ∙ c.word.ensures.after

pub returns-in_default-word-clause-line : goal.returns-in_default-word-clause-line
returns-in_default-word-clause-line c = c.word-2.ensures.line ∙ c.word.ensures.line

pub returns-clause-some : goal.returns-clause-some
returns-clause-some c = c.in-Some.ensures.word ∙ ap (λ (ws : List (List ℕ)). c.in-Some.first.bytes.now ∷ ws) c.in-Some-word.ensures.word

pub returns-clause-after : goal.returns-clause-after
returns-clause-after c = c.word-2.ensures.after ∙ c.word.ensures.after

pub returns-clause-line : goal.returns-clause-line
returns-clause-line c = c.word-2.ensures.line ∙ c.word.ensures.line
