use Rattle.cb_dcsc.specs.Columns.{row_value}
use Rattle.cb_masked.specs.RowSums.{AreSums}
use Rattle.cb_masked.proofs.AddedSums.{AreAddedSoFar}
use Rattle.cb_masked.proofs.sums.add_found.Given as goal

abbrev pub invariant-loop-n : goal.invariant-loop-n
invariant-loop-n g l =
    let s = g.S.Semiring.arithmetic in
    record {
      are : AreSums s l.rows l.sums;
      so_far : AreAddedSoFar s l.rows (λ i. s.mul (row_value s.zero l.column_rows l.values i) l.factor) l.n l.fn.sums l.sums;
    }
