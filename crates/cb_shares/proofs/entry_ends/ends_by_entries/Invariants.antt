use Rattle.std.proofs.Common.{◌≡◌, ◌+◌, ◌≤◌, length}
use Rattle.std.specs.Prelude.{All, AllPairs}
use Rattle.cb_shares.proofs.entry_ends.ends_by_entries.Given as goal

-- the ends so far ascend, and none is past the last of them
abbrev pub invariant-loop-n : goal.invariant-loop-n
invariant-loop-n g l = record {
  count : length l.ends.items + 1 ≡ l.n;
  ascending : AllPairs (λ c d. c ≤ d) l.ends.items;
  before : All (λ c. c ≤ l.end) l.ends.items;
  within : l.end ≤ l.cols;
}
