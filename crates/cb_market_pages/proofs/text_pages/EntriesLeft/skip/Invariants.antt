use Rattle.std.proofs.Common.{◌≡◌, ◌+◌, ◌≤◌, length, drop}
use Rattle.cb_market_pages.proofs.text_pages.EntriesLeft.skip.Given as goal

-- what is left once the others are skipped too
abbrev pub invariant-loop-left : goal.invariant-loop-left
invariant-loop-left g l = (drop l.left l.self ≡ drop l.most l.initial.self) × (l.most + length l.self ≡ l.left + length l.initial.self) × (l.left ≤ l.most)

abbrev pub decreases-loop-left : goal.decreases-loop-left
decreases-loop-left g l = l.left
