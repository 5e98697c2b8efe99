use Rattle.std.proofs.Common.{◌≡◌, refl, subst}
use Rattle.std.specs.Prelude.{IfOk}
use Rattle.cb_matrix.specs.Sparse.{Sparse}
use Rattle.cb_matrix.specs.Values.{product}
use Rattle.cb_matrix.specs.Operations.{masked}
use Rattle.cb_masked.proofs.SomeColumns.{all_places}
use Rattle.cb_masked.proofs.multiply_masked.Goals as goal

pub returns : goal.returns
returns g c =
    let s = g.S.Semiring.arithmetic in
    let columns = c.column_numbers-columns in
    let made = c.multiply_masked_columns in
    subst (λ (m : Sparse). IfOk made.result (λ n. n ≡ masked s (product s c.args.left.now c.args.right.now) m)) (all_places c.args.mask.now _ _ columns.result.now columns.ensures.numbers refl refl) made.ensures
