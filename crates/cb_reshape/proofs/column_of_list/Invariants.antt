use Rattle.std.proofs.Common.{◌+◌, ◌-◌, ◌≤◌, get_or, length, vec_len, vec_capacity}
use Rattle.cb_reshape.proofs.ListedColumn.{AreStoredTo}
use Rattle.cb_reshape.proofs.column_of_list.Given as goal

abbrev pub invariant-loop-row : goal.invariant-loop-row
invariant-loop-row g l = record {
  are : AreStoredTo g.S.Semiring.arithmetic (λ i. get_or l.fn.values i g.S.Semiring.arithmetic.zero) l.row l.rows.items l.stored.items;
  rows_room : vec_len l.rows + (length l.fn.values - l.row) ≤ vec_capacity l.rows;
  values_room : vec_len l.stored + (length l.fn.values - l.row) ≤ vec_capacity l.stored;
}
