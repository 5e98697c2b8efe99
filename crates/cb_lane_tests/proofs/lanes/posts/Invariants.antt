use Rattle.std.proofs.Common.{◌≡◌}
use Rattle.cb_lanes.specs.Desks.{identity}
use Rattle.cb_lane_tests.proofs.lanes.posts.Given as goal

abbrev pub invariant-loop-to : goal.invariant-loop-to
invariant-loop-to l = identity l.desk ≡ identity l.fn.desk
