use Rattle.std.proofs.Common.{◌+◌, ◌*◌, length}
use Rattle.cb_job_threads.proofs.apart.+apart.Given as goal

abbrev pub decreases-both_apart-here : goal.decreases-both_apart-here
decreases-both_apart-here g l = 3 * length l.front.now + 1

abbrev pub decreases-both_apart : goal.decreases-both_apart
decreases-both_apart g l = 3 * length l.front.now + 2

abbrev pub decreases-each_apart : goal.decreases-each_apart
decreases-each_apart g l = 3 * length l.items.now
