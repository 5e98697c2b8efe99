use Rattle.std.proofs.Common.{◌≡◌, ◌≤◌, ◌+◌, ◌-◌, ◌%◌, length, take, drop}
use Rattle.cb_dcsc.specs.Columns.{row_value}
use Rattle.cb_product.specs.SparseColumn.{IsSparseColumn, first_entries}
use Rattle.cb_product.specs.Terms.{terms_value, terms_length}
use Rattle.cb_product.proofs.ColumnSoFar.{IsColumnSoFar}
use Rattle.cb_product.proofs.joins.put_terms.Given as goal

abbrev pub invariant-loop-n : goal.invariant-loop-n
invariant-loop-n g l =
    let s = g.S.Semiring.arithmetic in
    record {
      long : length l.out_rows ≡ length l.fn.out_rows;
      values_long : length l.out_values ≡ length l.fn.out_values;
      half_long : length l.half_rows ≡ length l.fn.half_rows;
      half_values_long : length l.half_values ≡ length l.fn.half_values;
      within : l.n ≤ length l.terms;
      even : (length l.terms - l.n) % 2 ≡ 0;
      most : l.count + terms_length (drop l.n l.terms) ≤ length l.own_rows + terms_length l.terms;
      column : IsSparseColumn s (take l.count l.out_rows) (take l.count l.out_values);
      so_far : IsColumnSoFar s (λ i. s.add (row_value s.zero l.own_rows l.own_values i) (terms_value s l.rows l.values i l.terms)) (first_entries l.count l.out_rows l.out_values) (λ i. terms_value s l.rows l.values i (drop l.n l.terms));
    }

abbrev pub decreases-loop-n : goal.decreases-loop-n
decreases-loop-n g l = length l.terms - l.n
