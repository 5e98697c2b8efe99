use Rattle.std.proofs.Common.{◌≡◌}
use Rattle.std.specs.Prelude.{All}
use Rattle.cb_dcsc.specs.Columns.{rows_of, values_of}
use Rattle.cb_product.specs.ColumnStarts.{Tells}
use Rattle.cb_product.specs.Gathered.{AreGathered}
use Rattle.cb_product.proofs.ProductColumns.{IsSumSoFar}
use Rattle.cb_product.proofs.make_columns.Given as goal

abbrev pub invariant-loop-column : goal.invariant-loop-column
invariant-loop-column g l =
    record {
      so_far : IsSumSoFar g.S.Semiring.arithmetic l.accumulator l.left l.right l.columns l.column-index l.out;
      zeros : All (λ x. x ≡ g.S.Semiring.arithmetic.zero) l.work.sums;
      told : Tells l.index l.left;
      gathered : AreGathered g.S.Semiring.arithmetic l.left (rows_of l.right.entries) (values_of l.right.entries) l.panel;
    }
