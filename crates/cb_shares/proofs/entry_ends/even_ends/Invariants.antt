use Rattle.std.proofs.Common.{◌+◌, ◌-◌, ◌≤◌, length}
use Rattle.std.specs.Prelude.{All, AllPairs}
use Rattle.cb_shares.proofs.entry_ends.even_ends.Given as goal

-- the ends so far ascend, and none is past the last of them
abbrev pub invariant-loop-end : goal.invariant-loop-end
invariant-loop-end l = record {
  count : length l.ends.items + 1 ≤ l.count;
  ascending : AllPairs (λ c d. c ≤ d) l.ends.items;
  before : All (λ c. c ≤ l.end) l.ends.items;
  within : l.end ≤ l.cols;
}

abbrev pub decreases-loop-end : goal.decreases-loop-end
decreases-loop-end l = l.count - length l.ends.items
