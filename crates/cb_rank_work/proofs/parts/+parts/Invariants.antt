use Rattle.std.proofs.Common.{◌+◌, ◌*◌}
use Rattle.cb_rank_work.proofs.parts.+parts.Given as goal

abbrev pub decreases-make_parts-join+arg2 : goal.decreases-make_parts-join+arg2
decreases-make_parts-join+arg2 g l = 4 * l.high + 1

abbrev pub decreases-make_parts-join+arg3 : goal.decreases-make_parts-join+arg3
decreases-make_parts-join+arg3 g l = 4 * l.low + 3

abbrev pub decreases-make_parts : goal.decreases-make_parts
decreases-make_parts g l = 4 * l.parts

abbrev pub decreases-make_apart : goal.decreases-make_apart
decreases-make_apart g l = 4 * l.parts + 2

abbrev pub decreases-make_apart-join+arg2 : goal.decreases-make_apart-join+arg2
decreases-make_apart-join+arg2 g l = 4 * l.parts + 1
