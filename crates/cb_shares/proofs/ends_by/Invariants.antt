use Rattle.std.proofs.Common.{◌≡◌, ◌+◌, ◌≤◌, length, get_or}
use Rattle.std.specs.Prelude.{All, AllPairs}
use Rattle.cb_shares.proofs.ends_by.Given as goal

abbrev pub invariant-loop-n : goal.invariant-loop-n
invariant-loop-n l = record {
  count : length l.ends.items + 1 ≡ l.n;
  ascending : AllPairs (λ c d. c ≤ d) l.ends.items;
  before : All (λ c. c ≤ get_or l.columns l.place l.fn.cols) l.ends.items;
}
