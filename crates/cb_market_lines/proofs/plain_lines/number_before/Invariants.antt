use Rattle.std.proofs.Common.{length, ◌≡◌, ◌<◌, ◌≤◌, ◌^◌}
use Rattle.cb_market_lines.specs.Lines.{number, number_from}
use Rattle.cb_market_lines.specs.Cursor.{after_digits, front_digits}
use Rattle.cb_market_lines.proofs.plain_lines.number_before.Given as goal

-- the remaining digits continue the number of the digits before
abbrev pub invariant-loop-rest : goal.invariant-loop-rest
invariant-loop-rest l = record {
  after : after_digits l.rest ≡ after_digits l.text;
  small : l.number < 2 ^ 64;
  number_is : number_from l.number (front_digits l.rest) ≡ number (front_digits l.text);
  fits : length l.rest ≤ length l.text;
}

abbrev pub decreases-loop-rest : goal.decreases-loop-rest
decreases-loop-rest l = length l.rest
