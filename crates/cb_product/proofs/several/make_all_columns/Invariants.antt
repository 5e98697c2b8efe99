use Rattle.std.proofs.Common.{◌≡◌, get_or}
use Rattle.std.specs.Prelude.{All}
use Rattle.cb_product.specs.Sources.{IsSource, source_pairs}
use Rattle.cb_product.proofs.ColumnsMade.{IsMadeTo}
use Rattle.cb_product.proofs.SeveralProducts.{sums_at}
use Rattle.cb_product.proofs.several.make_all_columns.Given as goal

abbrev pub invariant-loop-column : goal.invariant-loop-column
invariant-loop-column g l =
    let s = g.S.Semiring.arithmetic in
    record {
      sources : All (IsSource s) l.sources;
      pairs : source_pairs l.sources ≡ source_pairs l.fn.sources;
      so_far : IsMadeTo s l.accumulator.shape (sums_at s l.accumulator l.fn.sources l.columns) (get_or l.columns l.column-index l.accumulator.shape.cols) l.out;
      zeros : All (λ x. x ≡ s.zero) l.work.sums;
    }
