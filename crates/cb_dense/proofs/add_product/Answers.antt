use Rattle.std.proofs.Common.{length, subst, refl}
use Rattle.cb_matrix.specs.Sparse.{Sparse, at}
use Rattle.cb_matrix.specs.Values.{product}
use Rattle.cb_product.specs.DenseSums.{AddsToSums}
use Rattle.cb_dense.proofs.ListedColumns.{all_places}
use Rattle.cb_dense.proofs.add_product.Goals as goal

pub returns-clause-sums : goal.returns-clause-sums
returns-clause-sums g c =
    let s = g.S.Semiring.arithmetic in
    let a = c.args.matrix.now in
    let x = c.args.vector.now in
    let numbers = c.column_numbers-columns.ensures in
    let whole = all_places a (length c.column_numbers-columns.result.now) c.column_numbers-columns.result.now numbers.numbers numbers.all refl in
    subst (λ (m : Sparse). AddsToSums s a.shape.rows (λ i. at s (product s m x) i 0) c.args.sums.now c.add_product_of_columns.new.sums) whole c.add_product_of_columns.ensures.sums
