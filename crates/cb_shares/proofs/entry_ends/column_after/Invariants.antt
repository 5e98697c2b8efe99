use Rattle.std.proofs.Common.{◌≤◌, ◌-◌}
use Rattle.cb_shares.proofs.entry_ends.column_after.Given as goal

-- the columns that are left: from no earlier one to none past the end
abbrev pub invariant-loop-low : goal.invariant-loop-low
invariant-loop-low g l = record {
  from : l.fn.from ≤ l.low;
  order : l.low ≤ l.high;
  cols : l.high ≤ l.fn.cols;
}

abbrev pub decreases-loop-low : goal.decreases-loop-low
decreases-loop-low g l = l.high - l.low
