use Rattle.std.proofs.Common.{◌≡◌, ◌≢◌, ◌+◌, ◌-◌, ◌≤◌, length, map, take, vec_len, vec_capacity}
use Rattle.std.specs.Prelude.{All}
use Rattle.cb_semirings.specs.Arithmetic.{IsValue}
use Rattle.cb_semirings.specs.Tables.{plus_times}
use Rattle.cb_dcsc.specs.Columns.{in_column, columns_with_entries}
use Rattle.cb_graphs.proofs.degrees.column_counts.Given as goal

abbrev pub invariant-loop-n : goal.invariant-loop-n
invariant-loop-n g l =
    let es = l.block.entries in
    record {
      counts : l.counts.items ≡ map (λ c. length (in_column c es)) (take l.n (columns_with_entries es));
      values : All (IsValue plus_times) l.counts.items;
      some : All (λ n. n ≢ 0) l.counts.items;
      room : vec_len l.counts + (l.columns - l.n) ≤ vec_capacity l.counts;
    }
