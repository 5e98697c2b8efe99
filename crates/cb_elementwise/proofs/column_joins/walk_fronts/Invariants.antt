use Rattle.std.proofs.Common.{◌+◌, ◌-◌, ◌≤◌, length, vec_len, vec_capacity}
use Rattle.cb_elementwise.specs.JoinedColumns.{IsJoinedTo}
use Rattle.cb_elementwise.proofs.column_joins.walk_fronts.Given as goal

abbrev pub invariant-loop-x : goal.invariant-loop-x
invariant-loop-x g l = record {
  joined : IsJoinedTo g.S.Semiring.arithmetic (g.R.Rule.combined l.rule) l.left_rows l.left_values l.right_rows l.right_values l.x l.y l.kept_rows.items l.kept_values.items;
  rows_room : vec_len l.kept_rows + ((length l.left_rows - l.x) + (length l.right_rows - l.y)) ≤ vec_capacity l.kept_rows;
  values_room : vec_len l.kept_values + ((length l.left_rows - l.x) + (length l.right_rows - l.y)) ≤ vec_capacity l.kept_values;
}

abbrev pub decreases-loop-x : goal.decreases-loop-x
decreases-loop-x g l = (length l.left_rows - l.x) + (length l.right_rows - l.y)
