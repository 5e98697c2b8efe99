use Rattle.std.proofs.Common.{length, ◌≡◌}
use Rattle.cb_market_lines.specs.Cursor.{after_blanks}
use Rattle.cb_market_lines.proofs.scanner.Scanner.skip_blanks.Given as goal

abbrev pub invariant-loop-self : goal.invariant-loop-self
invariant-loop-self l = record { rest : after_blanks l.self.rest.now ≡ after_blanks l.initial.self.rest.now; line : l.self.line ≡ l.initial.self.line }

abbrev pub decreases-loop-self : goal.decreases-loop-self
decreases-loop-self l = length l.self.rest.now
