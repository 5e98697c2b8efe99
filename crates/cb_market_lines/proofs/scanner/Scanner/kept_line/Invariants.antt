use Rattle.std.proofs.Common.{length, ◌≡◌, ◌+◌, ◌≤◌}
use Rattle.cb_market_lines.specs.Lines.{kept_from, lines}
use Rattle.cb_market_lines.proofs.scanner.Scanner.kept_line.Given as goal

abbrev pub invariant-loop-self : goal.invariant-loop-self
invariant-loop-self l = record {
  kept : kept_from l.self.line l.self.rest.now ≡ kept_from l.initial.self.line l.initial.self.rest.now;
  count : l.self.line + length (lines l.self.rest.now) ≡ l.initial.self.line + length (lines l.initial.self.rest.now);
  later : l.initial.self.line ≤ l.self.line;
  shorter : length l.self.rest.now ≤ length l.initial.self.rest.now;
}

abbrev pub decreases-loop-self : goal.decreases-loop-self
decreases-loop-self l = length l.self.rest.now
