use Rattle.std.proofs.Common.{◌≡◌, refl, subst}
use Rattle.std.specs.Prelude.{IfOk}
use Rattle.cb_matrix.specs.Sparse.{Sparse}
use Rattle.cb_matrix.specs.Values.{product}
use Rattle.cb_operations.specs.SelectionAnswers.{excluded}
use Rattle.cb_masked.proofs.SomeColumns.{all_places}
use Rattle.cb_masked.proofs.outside.multiply_outside.Goals as goal

pub returns : goal.returns
returns g c =
    let s = g.S.Semiring.arithmetic in
    let columns = c.column_numbers-columns in
    let made = c.multiply_outside_columns in
    subst (λ (b : Sparse). IfOk made.result (λ n. n ≡ excluded s (product s c.args.left.now b) c.args.mask.now)) (all_places c.args.right.now _ _ columns.result.now columns.ensures.numbers refl refl) made.ensures
