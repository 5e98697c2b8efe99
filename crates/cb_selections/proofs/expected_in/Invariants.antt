use Rattle.std.proofs.Common.{◌-◌, length}
use Rattle.cb_selections.proofs.expected_in.Given as goal

abbrev pub decreases-loop-n : goal.decreases-loop-n
decreases-loop-n g l = length l.columns - l.n
