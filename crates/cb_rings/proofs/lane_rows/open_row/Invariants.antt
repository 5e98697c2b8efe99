use Rattle.std.proofs.Common.{◌≡◌, ◌≤◌, ℕ, length, slice_index_or}
use Rattle.cb_rings.specs.Ends.{IsRow}
use Rattle.cb_rings.proofs.lane_rows.open_row.Given as goal

abbrev pub invariant-loop-to : goal.invariant-loop-to
invariant-loop-to g l =
    record {
      row : length l.row.items ≡ l.to;
      count : length l.columns.items ≡ length l.initial.columns.items;
      lanes : IsRow l.from l.capacity l.row.items l.initial.columns.items l.columns.items;
      rest : (j : ℕ) (d : _) → l.to ≤ j → slice_index_or l.columns.items j d ≡ slice_index_or l.initial.columns.items j d;
    }
