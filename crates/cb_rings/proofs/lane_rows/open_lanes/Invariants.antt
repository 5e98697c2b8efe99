use Rattle.std.proofs.Common.{◌≡◌, length}
use Rattle.cb_rings.specs.Ends.{AreRows, AreColumns, AreNewLanes}
use Rattle.cb_rings.proofs.lane_rows.open_lanes.Given as goal

abbrev pub invariant-loop : goal.invariant-loop
invariant-loop g l = (length l.columns.items ≡ l.counter) × AreColumns l.columns.items 0

abbrev pub invariant-loop-from : goal.invariant-loop-from
invariant-loop-from g l =
    record {
      row_count : length l.rows.items ≡ l.from;
      column_count : length l.columns.items ≡ l.ranks;
      rows : AreRows l.rows.items l.ranks;
      columns : AreColumns l.columns.items l.from;
      lanes : AreNewLanes l.capacity l.rows.items l.columns.items;
    }
