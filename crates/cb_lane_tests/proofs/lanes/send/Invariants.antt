use Rattle.std.proofs.Common.{◌≡◌}
use Rattle.cb_lanes.specs.Desks.{identity}
use Rattle.cb_lane_tests.proofs.lanes.send.Given as goal

abbrev pub invariant-loop-sheet : goal.invariant-loop-sheet
invariant-loop-sheet g l = identity l.desk ≡ identity l.fn.desk
