use Rattle.std.proofs.Common.{ℕ, ◌-◌, ◌<◌, length, get_or}
use Rattle.cb_dense.proofs.advance.Given as goal

abbrev pub invariant-loop-n : goal.invariant-loop-n
invariant-loop-n l = (k : ℕ) → k < l.n → get_or l.rows k 0 < l.row

abbrev pub decreases-loop-n : goal.decreases-loop-n
decreases-loop-n l = length l.rows - l.n
