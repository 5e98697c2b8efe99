use Rattle.std.proofs.Common.{◌≡◌, ◌++◌, length}
use Rattle.cb_layout.specs.Panels.{entries_of_panels}
use Rattle.cb_layout.proofs.traversal.Segments.next_segment.Given as goal

-- what is left of the current panel and of those after it
abbrev pub invariant-loop-segment : goal.invariant-loop-segment
invariant-loop-segment g l = l.self-inside.current ++ entries_of_panels l.self-inside.panels.now ≡ l.fn.self

abbrev pub decreases-loop-segment : goal.decreases-loop-segment
decreases-loop-segment g l = length l.self-inside.panels.now
