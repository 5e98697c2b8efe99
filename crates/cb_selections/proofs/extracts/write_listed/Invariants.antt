use Rattle.std.proofs.Common.{◌≤◌, length, take}
use Rattle.cb_selections.proofs.ListedRows.{IsListedTo}
use Rattle.cb_selections.proofs.extracts.write_listed.Given as goal

abbrev pub invariant-loop-n : goal.invariant-loop-n
invariant-loop-n l =
    record {
      so_far : IsListedTo l.listed l.rows l.values l.n (take l.count l.kept_rows.items) (take l.count l.kept_values.items);
      few : l.count ≤ l.n;
      rows_room : length l.rows ≤ length l.kept_rows.items;
      values_room : length l.rows ≤ length l.kept_values.items;
    }
