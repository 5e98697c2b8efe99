use Rattle.std.proofs.Common.{◌+◌, ◌-◌, ◌*◌, length}
use Rattle.cb_job_inputs.proofs.joining.+pieces.Given as goal

abbrev pub decreases-join_apart-there : goal.decreases-join_apart-there
decreases-join_apart-there g l = 5 * length l.pieces.now + 1

abbrev pub decreases-join_halves-here : goal.decreases-join_halves-here
decreases-join_halves-here g l = 5 * length l.front.now + 3

abbrev pub decreases-join_halves-there : goal.decreases-join_halves-there
decreases-join_halves-there g l = 5 * length l.back.now + 1

abbrev pub decreases-join_all : goal.decreases-join_all
decreases-join_all g l = 5 * length l.pieces.now

abbrev pub decreases-join_apart : goal.decreases-join_apart
decreases-join_apart g l = 5 * length l.pieces.now + 2

abbrev pub decreases-join_halves : goal.decreases-join_halves
decreases-join_halves g l = 5 * length l.front.now + 5 * length l.back.now - 1
