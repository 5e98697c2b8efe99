use Rattle.std.proofs.Common.{◌≤◌, ◌<◌, ◌-◌, length, get_or}
use Rattle.cb_elementwise.proofs.column_joins.first_from.Given as goal

abbrev pub invariant-loop-step : goal.invariant-loop-step
invariant-loop-step l = record {
  after : l.place ≤ l.at;
  inside : l.at < length l.rows;
  below : get_or l.rows l.at 0 < l.row;
  some : 0 < l.step;
}

abbrev pub decreases-loop-step : goal.decreases-loop-step
decreases-loop-step l = length l.rows - l.at
