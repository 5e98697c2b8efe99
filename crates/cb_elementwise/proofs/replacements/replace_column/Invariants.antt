use Rattle.std.proofs.Common.{◌+◌, ◌-◌, ◌≤◌, length, vec_len, vec_capacity}
use Rattle.cb_elementwise.proofs.ReplacedColumn.{IsReplacedTo}
use Rattle.cb_elementwise.proofs.replacements.replace_column.Given as goal

abbrev pub invariant-loop-n : goal.invariant-loop-n
invariant-loop-n g l = record {
  made : IsReplacedTo g.S.Semiring.arithmetic (λ i x. g.R.ValueRule.made l.rule i l.column x) l.rows l.values l.n l.kept_rows.items l.kept_values.items;
  rows_room : vec_len l.kept_rows + (length l.rows - l.n) ≤ vec_capacity l.kept_rows;
  values_room : vec_len l.kept_values + (length l.rows - l.n) ≤ vec_capacity l.kept_values;
}
