use Rattle.std.proofs.Common.{length, ◌≡◌, ◌<◌, ◌^◌}
use Rattle.cb_market_lines.specs.Lines.{number_from}
use Rattle.cb_market_lines.specs.Cursor.{after_digits, front_digits}
use Rattle.cb_market_lines.proofs.scanner.Scanner.digits.Given as goal

abbrev pub invariant-loop-self : goal.invariant-loop-self
invariant-loop-self l = record {
  rest : after_digits l.self.rest.now ≡ after_digits l.initial.self.rest.now;
  small : l.number < 2 ^ 64;
  line : l.self.line ≡ l.initial.self.line;
  number : number_from l.number (front_digits l.self.rest.now) ≡ number_from 0 (front_digits l.initial.self.rest.now);
}

abbrev pub decreases-loop-self : goal.decreases-loop-self
decreases-loop-self l = length l.self.rest.now
