use Rattle.std.proofs.Common.{◌+◌, ◌≤◌, length}
use Rattle.cb_selections.proofs.column_places.searched.Given as goal

abbrev pub invariant-loop-size : goal.invariant-loop-size
invariant-loop-size l = l.place + l.size ≤ length l.stored

abbrev pub decreases-loop-size : goal.decreases-loop-size
decreases-loop-size l = l.size
