use Rattle.std.proofs.Common.{length, get_or}
use Rattle.cb_matrix.specs.Sparse.{Extent, at}
use Rattle.cb_product.proofs.ColumnsMade.{IsMadeTo}
use Rattle.cb_selections.proofs.RangedColumns.{ranged}
use Rattle.cb_selections.proofs.extracts.push_both.Given as goal

abbrev pub invariant-loop-n : goal.invariant-loop-n
invariant-loop-n g l =
    let s = g.S.Semiring.arithmetic in
    let extent : Extent = record { rows = length l.listed; cols = length l.cols } in
    IsMadeTo s extent (ranged s extent (λ i j. at s l.block (get_or l.listed i l.block.shape.rows) (get_or l.cols j 0)) l.first l.end) l.n l.out
