use Rattle.std.proofs.Common.{length, ◌≡◌, ◌+◌, ◌<◌, ◌≤◌, ◌^◌}
use mathlib.Core.List.{IsPrefix}
use Rattle.cb_market_lines.specs.Lines.{kept_from, lines}
use Rattle.cb_market_lines.proofs.Law.{words_of}
use Rattle.cb_market.proofs.PartedTexts.{Reading}
use Rattle.cb_market_lines.proofs.LineFaults.{SameFault}
use Rattle.cb_market.proofs.entries.remaining_entries.Given as goal

abbrev pub invariant-loop-line : goal.invariant-loop-line
invariant-loop-line g l = record {
  faults : SameFault g.S.Semiring.arithmetic l.header l.fn.size.shape (l.initial.scanner.line + length (lines l.initial.scanner.rest.now)) l.fn.size.count (kept_from l.initial.scanner.line l.initial.scanner.rest.now) l.left (kept_from l.scanner.line l.scanner.rest.now);
  reading : Reading g.S.Semiring.arithmetic l.header l.fn.size.shape (words_of (kept_from l.initial.scanner.line l.initial.scanner.rest.now)) (words_of (kept_from l.scanner.line l.scanner.rest.now)) l.fn.size.count l.left l.initial.entries.entries l.entries.entries;
  count : l.scanner.line + length (lines l.scanner.rest.now) ≡ l.initial.scanner.line + length (lines l.initial.scanner.rest.now);
  later : l.initial.scanner.line ≤ l.scanner.line;
  first : IsPrefix l.initial.entries.entries l.entries.entries;
  side : l.entries.side ≡ l.initial.entries.side;
  shape : l.entries.shape ≡ l.fn.size.shape;
  room : l.scanner.line + length (lines l.scanner.rest.now) < 2 ^ 64;
}

abbrev pub decreases-loop-line : goal.decreases-loop-line
decreases-loop-line g l = length l.scanner.rest.now
