use Rattle.std.proofs.Common.{◌≡◌, ◌≤◌, length, take}
use Rattle.cb_searches.specs.Numbers.{listed_at}
use Rattle.cb_searches.proofs.UpRounds.{IsRoundThrough}
use Rattle.cb_searches.proofs.breadth_first.up_by_entries.Given as goal

-- the first entries have been looked at
abbrev pub invariant-loop-n : goal.invariant-loop-n
invariant-loop-n l = record {
  length : length l.list ≡ length l.fn.list;
  few : l.reached ≤ l.n;
  none : l.reached ≡ 0 → l.list ≡ l.fn.list;
  so_far : IsRoundThrough l.graph l.rounds (listed_at l.fn.list) (listed_at l.list) (take l.n l.graph.entries);
}
