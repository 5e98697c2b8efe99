use Rattle.std.proofs.Common.{◌≡◌}
use Rattle.cb_lanes.specs.Desks.{identity}
use Rattle.cb_lane_tests.proofs.lanes.takes.Given as goal

abbrev pub invariant-loop-answer : goal.invariant-loop-answer
invariant-loop-answer l = identity l.desk ≡ identity l.fn.desk
