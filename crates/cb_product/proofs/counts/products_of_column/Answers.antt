use Rattle.std.proofs.Common.{◌<◌, sym, subst}
use Rattle.std.specs.Prelude.{All}
use Rattle.cb_dcsc.proofs.Lookup.{rows_inside}
use Rattle.cb_product.proofs.counts.products_of_column.Goals as goal

pub products-requires-clause-inside : goal.products-requires-clause-inside
products-requires-clause-inside g c =
    let rows = rows_inside g.S.Semiring.arithmetic c.args.right.now _ _ c.shape-right_shape.ensures.matrix c.nth_column.ensures.rows in
    subst (λ n. All (λ i. i < n) c.nth_column.result.0.now) (sym c.requires.agree) rows
