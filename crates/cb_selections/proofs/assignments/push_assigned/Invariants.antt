use Rattle.std.proofs.Common.{◌-◌}
use Rattle.cb_selections.proofs.AssignedPart.{IsAssignedTo}
use Rattle.cb_selections.proofs.assignments.push_assigned.Given as goal

abbrev pub invariant-loop-column : goal.invariant-loop-column
invariant-loop-column g l = IsAssignedTo g.S.Semiring.arithmetic l.corner l.part l.block l.columns l.part_columns l.x l.y l.column l.out

abbrev pub decreases-loop-column : goal.decreases-loop-column
decreases-loop-column g l = l.end - l.column
