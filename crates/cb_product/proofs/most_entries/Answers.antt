use Rattle.std.proofs.Common.{◌<◌, sym, subst}
use Rattle.std.specs.Prelude.{All}
use Rattle.cb_dcsc.proofs.Lookup.{all_rows_inside}
use Rattle.cb_product.proofs.most_entries.Goals as goal

pub products-products-requires-clause-inside : goal.products-products-requires-clause-inside
products-products-requires-clause-inside g c =
    let rows = all_rows_inside g.S.Semiring.arithmetic c.args.right.now _ c.shape.ensures.matrix c.row_numbers.ensures in
    subst (λ n. All (λ i. i < n) c.row_numbers.result.now) (sym c.requires.agree) rows
