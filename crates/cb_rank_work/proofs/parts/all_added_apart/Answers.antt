use Rattle.std.proofs.Common.{sym, subst}
use Rattle.std.specs.Prelude.{All}
use Rattle.cb_product.specs.SeveralProducts.{AreColumnsOf, MakeShape, pairs_in}
use Rattle.cb_rank_work.specs.FactorSlots.{AreToBeMade}
use Rattle.cb_rank_work.proofs.PartsAppended.{made_whole}
use Rattle.cb_rank_work.proofs.ProductsAtOnce.{all_make}
use Rattle.cb_rank_work.proofs.parts.all_added_apart.Goals as goal

pub columns_of_sum-requires : goal.columns_of_sum-requires
columns_of_sum-requires g c =
    let shape = c.args.sum.now.shape in
    let make = all_make c.args.store.now shape c.args.products.now (pairs_in c.in_ok-factors.factors.items) c.requires c.in_ok-factors.ensures in
    subst (λ fs. All (MakeShape shape) (pairs_in fs)) (sym c.deref.ensures.value) make

pub returns : goal.returns
returns g c =
    let s = g.S.Semiring.arithmetic in
    let laws = (g.met.S.Semiring g.world.𝓛 g.world.𝓜 g.world.𝓡 ((λ s x. x), (λ x. x), (λ x. x), λ x. x)).is_semiring in
    let slots = c.args.store.now in
    let sum = c.args.sum.now in
    let ps = c.args.products.now in
    let cs = c.in_ok-columns.columns.items in
    let fs = pairs_in c.in_ok-factors.factors.items in
    let columns : AreColumnsOf cs sum fs = rw (c.deref.ensures.value) at c.in_ok-columns.ensures in
    let to : AreToBeMade slots sum ps cs = record { hold = c.requires; ascending = columns.ascending; within = columns.within } in
    let part = rw (c.deref-2.ensures.value) at c.make_parts.ensures in
    made_whole s laws slots sum c.shape-shape.ensures.matrix ps cs to fs c.make_parts.result c.in_ok-factors.ensures columns part
