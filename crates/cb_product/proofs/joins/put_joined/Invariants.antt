use Rattle.std.proofs.Common.{◌≡◌, ◌+◌, ◌-◌, ◌<◌, ◌≤◌, length, take, get_or}
use Rattle.std.specs.Prelude.{All}
use Rattle.cb_product.specs.SparseColumn.{IsSparseColumn, first_entries, rest_value, scaled, both_value}
use Rattle.cb_product.proofs.ColumnSoFar.{IsColumnSoFar}
use Rattle.cb_product.proofs.joins.put_joined.Given as goal

abbrev pub invariant-loop-x : goal.invariant-loop-x
invariant-loop-x g l =
    let s = g.S.Semiring.arithmetic in
    record {
      long : length l.out_rows ≡ length l.fn.out_rows;
      values_long : length l.out_values ≡ length l.fn.out_values;
      x_within : l.x ≤ length l.own_rows;
      y_within : l.y ≤ length l.rows;
      most : l.count ≤ l.x + l.y;
      column : IsSparseColumn s (take l.count l.out_rows) (take l.count l.out_values);
      so_far : IsColumnSoFar s (both_value s l.own_rows l.own_values l.own_scale l.rows l.values l.scale) (first_entries l.count l.out_rows l.out_values) (λ i. s.add (scaled s (rest_value s.zero l.own_rows l.own_values l.x i) l.own_scale) (scaled s (rest_value s.zero l.rows l.values l.y i) l.scale));
      own_before : l.x < length l.own_rows → All (λ i. i < get_or l.own_rows l.x 0) (take l.count l.out_rows);
      before : l.y < length l.rows → All (λ i. i < get_or l.rows l.y 0) (take l.count l.out_rows);
    }

abbrev pub decreases-loop-x : goal.decreases-loop-x
decreases-loop-x g l = (length l.own_rows - l.x) + (length l.rows - l.y)
