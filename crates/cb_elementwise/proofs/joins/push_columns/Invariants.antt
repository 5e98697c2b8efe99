use Rattle.std.proofs.Common.{◌-◌, ◌+◌, length}
use Rattle.cb_matrix.specs.Sparse.{at}
use Rattle.cb_elementwise.proofs.MatrixJoins.{IsWalkedTo}
use Rattle.cb_elementwise.proofs.joins.push_columns.Given as goal

abbrev pub invariant-loop-x : goal.invariant-loop-x
invariant-loop-x g l =
    let s = g.S.Semiring.arithmetic in
    IsWalkedTo s l.left.shape (λ i j. g.R.Rule.combined l.rule (at s l.left i j) (at s l.right i j)) l.left_columns l.right_columns l.x l.y l.out

abbrev pub decreases-loop-x : goal.decreases-loop-x
decreases-loop-x g l = (length l.left_columns - l.x) + (length l.right_columns - l.y)
