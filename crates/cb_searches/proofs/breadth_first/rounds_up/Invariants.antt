use Rattle.std.proofs.Common.{◌≡◌, ℕ, length}
use Rattle.cb_searches.specs.Numbers.{listed_at}
use Rattle.cb_searches.specs.BreadthFirst.{AreLevelsWithin}
use Rattle.cb_searches.proofs.breadth_first.rounds_up.Given as goal

-- so many rounds are made
abbrev pub invariant-loop-rounds : goal.invariant-loop-rounds
invariant-loop-rounds l = record {
  length : length l.list ≡ length l.fn.list;
  levels : (source : ℕ) → AreLevelsWithin l.graph source 0 (listed_at l.fn.list) → AreLevelsWithin l.graph source l.rounds (listed_at l.list);
}
