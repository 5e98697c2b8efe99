use Rattle.std.proofs.Common.{◌<◌, length, get_or}
use Rattle.std.specs.Prelude.{All}
use Rattle.cb_product.specs.SparseColumn.{scaled_at}
use Rattle.cb_product.specs.InColumns.{is_among}
use Rattle.cb_product.specs.Outside.{outside, ArePassed}
use Rattle.cb_product.proofs.ColumnSoFar.{IsColumnSoFar}
use Rattle.cb_product.proofs.Outside.{left_outside}
use Rattle.cb_product.proofs.columns.Column.fill_outside.Given as goal

abbrev pub invariant-loop-n : goal.invariant-loop-n
invariant-loop-n g l =
    let s = g.S.Semiring.arithmetic in
    record {
      so_far : IsColumnSoFar s (outside s.zero l.excluded (scaled_at s l.rows l.values l.scale)) l.self (left_outside s l.rows l.values l.scale (is_among l.excluded) l.n);
      before : l.n < length l.rows → All (λ i. i < get_or l.rows l.n 0) l.self.rows;
      passed : l.n < length l.rows → ArePassed l.excluded l.next (get_or l.rows l.n 0);
    }
