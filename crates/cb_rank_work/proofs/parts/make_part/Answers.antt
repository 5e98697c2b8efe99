use Rattle.std.proofs.Common.{sym, subst}
use Rattle.std.specs.Prelude.{All}
use Rattle.cb_product.specs.SeveralProducts.{MakeShape, pairs_in}
use Rattle.cb_rank_work.proofs.PartsAppended.{made_part}
use Rattle.cb_rank_work.proofs.ProductsAtOnce.{all_make}
use Rattle.cb_rank_work.proofs.parts.make_part.Goals as goal

pub multiply_all_columns-requires-clause-shapes : goal.multiply_all_columns-requires-clause-shapes
multiply_all_columns-requires-clause-shapes g c =
    let shape = c.args.sum.now.shape in
    let make = all_make c.args.store.now shape c.args.products.now (pairs_in c.in_ok-factors.factors.items) c.requires.hold c.in_ok-factors.ensures in
    subst (λ fs. All (MakeShape shape) (pairs_in fs)) (sym c.deref.ensures.value) make

pub returns : goal.returns
returns g c =
    let columns = rw (c.deref.ensures.value) at c.multiply_all_columns.ensures.columns in
    let matrices = rw (c.deref.ensures.value) at c.multiply_all_columns.ensures.matrices in
    made_part g.S.Semiring.arithmetic c.args.store.now c.args.sum.now c.args.products.now c.args.columns.now (pairs_in c.in_ok-factors.factors.items) c.multiply_all_columns.result c.in_ok-factors.ensures columns matrices
