use Rattle.std.proofs.Common.{sym, rules, drop, get_or}
use Rattle.cb_market_lines.specs.Cursor.{front_digits}
use Rattle.cb_market_lines.proofs.DigitByDigit.{too_many, small_at_end, small_at_other}
use Rattle.cb_market_lines.proofs.scanner.Scanner.digits.Goals as goal

pub returns-in_default-with_digit-clause-number : goal.returns-in_default-with_digit-clause-number
returns-in_default-with_digit-clause-number c = sym (too_many c.loop-self.number (front_digits (drop 1 c.loop-self.self.rest.now)) (front_digits c.args.self.now.rest.now) (get_or c.loop-self.self.rest.now 0 0) (search rules) (search rules))

pub returns-in_default-clause-number : goal.returns-in_default-clause-number
returns-in_default-clause-number c = small_at_end _ _ _ c.in_default.len_below (c.loop-self.invariant.small) c.loop-self.invariant.number

pub returns-then-not-is_ascii_digit-clause-number : goal.returns-then-not-is_ascii_digit-clause-number
returns-then-not-is_ascii_digit-clause-number c = small_at_other c.loop-self.self.rest.now _ _ (search rules) (c.loop-self.invariant.small) c.loop-self.invariant.number
