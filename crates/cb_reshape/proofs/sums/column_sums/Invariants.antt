use Rattle.std.proofs.Common.{◌≡◌, ◌+◌, ◌-◌, ◌≤◌, length, map, filter, take, vec_len, vec_capacity}
use Rattle.cb_dcsc.specs.Columns.{columns_with_entries}
use Rattle.cb_reshape.proofs.SumsSoFar.{is_stored, stored_total}
use Rattle.cb_reshape.proofs.sums.column_sums.Given as goal

abbrev pub invariant-loop-n : goal.invariant-loop-n
invariant-loop-n g l =
    let s = g.S.Semiring.arithmetic in
    let t = stored_total s l.block.entries in
    record {
      columns : l.columns.items ≡ filter (is_stored s t) (take l.n (columns_with_entries l.block.entries));
      sums : l.sums.items ≡ map t l.columns.items;
      columns_room : vec_len l.columns + (length (columns_with_entries l.block.entries) - l.n) ≤ vec_capacity l.columns;
      sums_room : vec_len l.sums + (length (columns_with_entries l.block.entries) - l.n) ≤ vec_capacity l.sums;
    }
