use Rattle.std.proofs.Common.{◌≡◌, ℕ, ◌<◌, ◌≤◌, length}
use Rattle.cb_dcsc.specs.Columns.{with_entries}
use Rattle.cb_grid.specs.Blocks.{block_at}
use Rattle.cb_layout.proofs.distributed.append_in_turn.Given as goal

abbrev pub invariant-loop-rank : goal.invariant-loop-rank
invariant-loop-rank g l = record {
  count : length l.blocks.items ≡ length l.initial.blocks.items;
  others : length l.others.items ≡ length l.initial.others.items;
  done : (r : ℕ) → r < l.rank → block_at l.blocks.items r ≡ with_entries (block_at l.initial.blocks.items r) (block_at l.initial.others.items r).entries;
  left : (r : ℕ) → l.rank ≤ r → block_at l.blocks.items r ≡ block_at l.initial.blocks.items r;
  left_others : (r : ℕ) → l.rank ≤ r → block_at l.others.items r ≡ block_at l.initial.others.items r;
}
