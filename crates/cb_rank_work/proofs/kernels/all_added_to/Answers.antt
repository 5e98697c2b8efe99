use Rattle.std.proofs.Common.{sym, subst}
use Rattle.std.specs.Prelude.{All}
use Rattle.cb_matrix.specs.Sparse.{Sparse}
use Rattle.cb_product.specs.SeveralProducts.{MakeShape, pairs_in}
use Rattle.cb_rank_work.proofs.ProductsAtOnce.{all_make}
use Rattle.cb_rank_work.proofs.kernels.all_added_to.Goals as goal

pub multiply_all_into-requires : goal.multiply_all_into-requires
multiply_all_into-requires g c =
    let make = all_make c.args.store.now c.args.sum.shape c.args.products.now (pairs_in c.in-Ok.factors.items) c.requires.hold c.in-Ok.ensures in
    subst (λ (m : Sparse). All (MakeShape m.shape) (pairs_in c.deref-3.result.now)) (sym c.in-Ok-into_block.ensures.ok)
    (subst (λ fs. All (MakeShape c.args.sum.shape) (pairs_in fs)) (sym c.deref-3.ensures.value) make)
