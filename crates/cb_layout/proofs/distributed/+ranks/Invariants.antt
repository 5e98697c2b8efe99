use Rattle.std.proofs.Common.{◌+◌, ◌*◌, length}
use Rattle.cb_layout.proofs.distributed.+ranks.Given as goal

abbrev pub decreases-append_both-here : goal.decreases-append_both-here
decreases-append_both-here g l = 3 * length l.front.now + 1

abbrev pub decreases-append_both : goal.decreases-append_both
decreases-append_both g l = 3 * length l.front.now + 2

abbrev pub decreases-append_apart : goal.decreases-append_apart
decreases-append_apart g l = 3 * length l.blocks.now
