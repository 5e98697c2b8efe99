use Rattle.std.proofs.Common.{get_or}
use Rattle.cb_product.proofs.ColumnsMade.{IsMadeTo}
use Rattle.cb_operations.specs.Regions.{where_true}
use Rattle.cb_matrix.specs.Sparse.{at}
use Rattle.std.specs.Prelude.{◌==◌}
use Rattle.cb_selections.proofs.diagonals.push_places.Given as goal

abbrev pub invariant-loop-n : goal.invariant-loop-n
invariant-loop-n g l =
    let s = g.S.Semiring.arithmetic in
    IsMadeTo s (record { rows = l.column.shape.rows; cols = l.column.shape.rows }) (λ i j. where_true s.zero (i == j) (at s l.column j 0)) (get_or l.rows l.n l.column.shape.rows) l.out
