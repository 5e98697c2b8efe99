use Rattle.std.proofs.Common.{◌≡◌, ℕ, ◌<◌, length, get_or}
use Rattle.cb_dcsc.specs.Columns.{row_value}
use Rattle.cb_product.specs.SparseColumn.{rest_value}
use Rattle.cb_masked.specs.RowSums.{AreSums}
use Rattle.cb_masked.proofs.sums.add_listed.Given as goal

abbrev pub invariant-loop-n : goal.invariant-loop-n
invariant-loop-n g l =
    let s = g.S.Semiring.arithmetic in
    record {
      are : AreSums s l.rows l.sums;
      sums : (k : ℕ) → k < length l.rows → s.add (get_or l.sums k s.zero) (s.mul (rest_value s.zero l.column_rows l.values l.n (get_or l.rows k 0)) l.factor) ≡ s.add (get_or l.fn.sums k s.zero) (s.mul (row_value s.zero l.column_rows l.values (get_or l.rows k 0)) l.factor);
    }
