use Rattle.std.proofs.Common.{length}
use Rattle.cb_text_tests.proofs.market.pages.append_pages.Given as goal

abbrev pub decreases-loop-bytes : goal.decreases-loop-bytes
decreases-loop-bytes g l = length l.pages
