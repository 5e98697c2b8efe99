use Rattle.std.proofs.Common.{get_or}
use Rattle.cb_selections.proofs.DiagonalColumn.{IsColumnTo, side_of, own}
use Rattle.cb_selections.proofs.diagonals.push_diagonal.Given as goal

abbrev pub invariant-loop-n : goal.invariant-loop-n
invariant-loop-n g l =
    let s = g.S.Semiring.arithmetic in
    IsColumnTo s (side_of l.block) (own s l.block) (get_or l.columns l.n l.block.shape.cols) l.out
