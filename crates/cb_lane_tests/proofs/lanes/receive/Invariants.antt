use Rattle.std.proofs.Common.{◌≡◌, ◌≤◌}
use Rattle.cb_lanes.specs.Desks.{identity}
use Rattle.cb_lane_tests.proofs.lanes.receive.Given as goal

abbrev pub invariant-loop : goal.invariant-loop
invariant-loop g l = record {
  same : identity l.desk ≡ identity l.fn.desk;
  count : l.in_order ≤ l.counter;
}
