use Rattle.std.proofs.Common.{◌≤◌}
use Rattle.cb_layout.specs.declared.front.TheConstants.{NO_COLUMN}
use Rattle.cb_layout.proofs.Fronts.{IsLeastSoFar}
use Rattle.cb_layout.proofs.front.least.Given as goal

-- the least of the rows so far
abbrev pub invariant-loop-k : goal.invariant-loop-k
invariant-loop-k l = record {
  so_far : IsLeastSoFar l.columns l.k l.row l.column;
  limit : l.column ≤ NO_COLUMN;
}
