use Rattle.std.proofs.Common.{rules, ◌∙◌, inl, inr}
use Rattle.cb_market_lines.proofs.scanner.Scanner.number.Goals.{else-self-before-via-then-self-before+else-is_word_end, else-self-before-via-else-self-before}
use Rattle.cb_market_lines.proofs.FrontWords.{number_whole, number_rest, number_ended, number_none}
use Rattle.cb_market_lines.proofs.scanner.Scanner.number.Goals as goal

pub returns-then-is_word_end-clause-number : goal.returns-then-is_word_end-clause-number
returns-then-is_word_end-clause-number c = c.whole_number.ensures ∙ number_whole c.args.self.now.rest.now _ _ _ c.skip_sign.ensures.rest c.digits-digits.ensures.rest (search rules) (search rules) c.digits-digits.ensures.number

pub returns-then-is_word_end-clause-rest : goal.returns-then-is_word_end-clause-rest
returns-then-is_word_end-clause-rest c = number_ended c.args.self.now.rest.now _ _ c.skip_sign.ensures.rest c.digits-digits.ensures.rest (search rules)

pub returns-clause-number : goal.returns-clause-number
returns-clause-number c = number_none c.args.self.now.rest.now _ _ c.skip_sign.ensures.rest c.digits-digits.ensures.rest
    (elim c.else-self-before.branch [ else-self-before-via-then-self-before+else-is_word_end w ↦ inr (search rules) | else-self-before-via-else-self-before w ↦ inl (search rules) ])

pub returns-clause-rest : goal.returns-clause-rest
returns-clause-rest c = c.skip_word.ensures.rest ∙ number_rest c.args.self.now.rest.now _ _ c.skip_sign.ensures.rest c.digits-digits.ensures.rest
