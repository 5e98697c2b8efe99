use Rattle.std.proofs.Common.{◌≡◌, ◌<◌, ◌≤◌, ◌+◌, ◌-◌, length, take, get_or}
use Rattle.std.specs.Prelude.{All}
use Rattle.cb_product.specs.SparseColumn.{IsSparseColumn, first_entries, value_in, rest_value, scaled}
use Rattle.cb_product.proofs.ColumnSoFar.{IsColumnSoFar}
use Rattle.cb_product.proofs.joins.put_rest.Given as goal

abbrev pub invariant-loop-n : goal.invariant-loop-n
invariant-loop-n g l =
    let s = g.S.Semiring.arithmetic in
    record {
      long : length l.out_rows ≡ length l.fn.out_rows;
      values_long : length l.out_values ≡ length l.fn.out_values;
      most : l.len + (length l.rows - l.n) ≤ l.count + (length l.rows - l.from);
      column : IsSparseColumn s (take l.len l.out_rows) (take l.len l.out_values);
      so_far : IsColumnSoFar s (λ i. s.add (value_in s.zero (first_entries l.count l.fn.out_rows l.fn.out_values) i) (scaled s (rest_value s.zero l.rows l.values l.from i) l.scale)) (first_entries l.len l.out_rows l.out_values) (λ i. scaled s (rest_value s.zero l.rows l.values l.n i) l.scale);
      none : length l.rows ≤ l.from → take l.len l.out_rows ≡ take l.count l.fn.out_rows;
      before : l.n < length l.rows → All (λ i. i < get_or l.rows l.n 0) (take l.len l.out_rows);
    }
