use Rattle.std.proofs.Common.{get_or}
use Rattle.cb_matrix.specs.Sparse.{at}
use Rattle.cb_operations.specs.SelectionAnswers.{of_stored}
use Rattle.cb_product.proofs.ColumnsMade.{IsMadeTo}
use Rattle.cb_elementwise.proofs.replacements.push_columns.Given as goal

abbrev pub invariant-loop-n : goal.invariant-loop-n
invariant-loop-n g l =
    let s = g.S.Semiring.arithmetic in
    IsMadeTo s l.block.shape (λ i j. of_stored s.zero (g.R.ValueRule.made l.rule i j) (at s l.block i j)) (get_or l.columns l.n l.block.shape.cols) l.out
