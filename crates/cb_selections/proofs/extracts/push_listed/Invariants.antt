use Rattle.std.proofs.Common.{length, get_or}
use Rattle.cb_matrix.specs.Sparse.{at}
use Rattle.cb_product.proofs.ColumnsMade.{IsMadeTo}
use Rattle.cb_selections.proofs.extracts.push_listed.Given as goal

abbrev pub invariant-loop-n : goal.invariant-loop-n
invariant-loop-n g l =
    let s = g.S.Semiring.arithmetic in
    IsMadeTo s (record { rows = length l.listed; cols = l.block.shape.cols }) (λ i j. at s l.block (get_or l.listed i l.block.shape.rows) j) (get_or l.columns l.n l.block.shape.cols) l.out
