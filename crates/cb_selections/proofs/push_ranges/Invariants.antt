use Rattle.std.proofs.Common.{get_or}
use Rattle.cb_matrix.specs.Sparse.{at}
use Rattle.cb_product.proofs.ColumnsMade.{IsMadeTo}
use Rattle.cb_operations.specs.Regions.{is_in, where_true}
use Rattle.cb_selections.proofs.push_ranges.Given as goal

abbrev pub invariant-loop-n : goal.invariant-loop-n
invariant-loop-n g l =
    let s = g.S.Semiring.arithmetic in
    IsMadeTo s l.block.shape (λ i j. where_true s.zero (is_in l.region i j) (at s l.block i j)) (get_or l.columns l.n l.block.shape.cols) l.kept
