use Rattle.std.proofs.Common.{◌*◌, ◌+◌, ◌/◌, ◌%◌, get_or}
use Rattle.cb_matrix.specs.Sparse.{at}
use Rattle.cb_operations.specs.SelectionAnswers.{pair_shape, pair_value}
use Rattle.cb_product.proofs.ColumnsMade.{IsMadeTo}
use Rattle.cb_selections.proofs.kronecker_products.push_products.Given as goal

abbrev pub invariant-loop-n : goal.invariant-loop-n
invariant-loop-n g l =
    let s = g.S.Semiring.arithmetic in
    IsMadeTo s (pair_shape l.left l.right) (λ i j. pair_value s l.right.shape.rows (λ k. at s l.left k (j / l.right.shape.cols)) (λ k. at s l.right k (j % l.right.shape.cols)) i) (get_or l.outer l.n l.left.shape.cols * l.right.shape.cols) l.out

abbrev pub invariant-loop-m : goal.invariant-loop-m
invariant-loop-m g l =
    let s = g.S.Semiring.arithmetic in
    IsMadeTo s (pair_shape l.left l.right) (λ i j. pair_value s l.right.shape.rows (λ k. at s l.left k (j / l.right.shape.cols)) (λ k. at s l.right k (j % l.right.shape.cols)) i) (get_or l.outer l.n 0 * l.right.shape.cols + get_or l.inner l.m l.right.shape.cols) l.out
