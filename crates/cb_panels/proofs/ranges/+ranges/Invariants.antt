use Rattle.std.proofs.Common.{◌+◌, ◌*◌}
use Rattle.cb_panels.proofs.ranges.+ranges.Given as goal

abbrev pub decreases-join+arg3 : goal.decreases-join+arg3
decreases-join+arg3 g l = 2 * l.before + 1

abbrev pub decreases-make_ranges : goal.decreases-make_ranges
decreases-make_ranges g l = 2 * l.count
