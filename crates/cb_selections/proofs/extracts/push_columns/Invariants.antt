use Rattle.std.proofs.Common.{get_or, length}
use Rattle.cb_matrix.specs.Sparse.{Extent, at}
use Rattle.cb_product.proofs.ColumnsMade.{IsMadeTo}
use Rattle.cb_selections.proofs.RangedColumns.{ranged}
use Rattle.cb_selections.proofs.extracts.push_columns.Given as goal

abbrev pub invariant-loop-n : goal.invariant-loop-n
invariant-loop-n g l =
    let s = g.S.Semiring.arithmetic in
    let extent : Extent = record { rows = l.block.shape.rows; cols = length l.columns } in
    IsMadeTo s extent (ranged s extent (λ i j. at s l.block i (get_or l.columns j 0)) l.first l.end) l.n l.out
