use Rattle.std.proofs.Common.{rules, ◌≡◌, ℕ, List, sym, subst, ap, ◌∙◌}
use Rattle.cb_matrix.specs.Sparse.{Sparse}
use Rattle.cb_matrix.specs.Values.{product, product_shape}
use Rattle.cb_rank_engines.specs.EngineRuns.{LostWhereRefused}
use Rattle.cb_rank_engines.proofs.Lost.{left_lost}
use Rattle.cb_plan_vectors.specs.SpreadVectors.{HasProduct}
use Rattle.cb_plan_vectors.proofs.SpreadProducts.{spread_fits}
use Rattle.cb_rank_operations.specs.VectorOrders.{IsProductLoss}
use Rattle.cb_rank_operations.proofs.SteppedProducts.{left_product, ordered_product, ordered_product_loss}
use Rattle.cb_rank_operations.proofs.products.multiply_vector_by.Goals as goal

pub run_by-requires-clause-fits : goal.run_by-requires-clause-fits
run_by-requires-clause-fits g c κs lives =
    rw (c.requires.plan.ranks, c.requires.plan.starts) (spread_fits g.S.Semiring.arithmetic c.args.grid.now.side c.args.matrix.matrix c.args.vector.now c.in_ok-stores.stores.items c.in_ok-stores.ensures c.requires.vector)

pub collected-requires-clause-lost : goal.collected-requires-clause-lost
collected-requires-clause-lost g c =
    subst (LostWhereRefused c.in_ok-stores-2.field-0.stores.items) (sym c.deref.ensures.value)
    (left_lost g.S.Semiring.arithmetic c.args.plan.now c.in_ok-stores.stores.items c.in_ok-stores-2.field-0.stores.items c.in_ok-stores-2.field-0.refusals.items c.in_ok-stores-2.ensures.left)

pub collected-requires-clause-left : goal.collected-requires-clause-left
collected-requires-clause-left g c =
    let laws = (g.met.S.Semiring g.world.𝓛 g.world.𝓜 g.world.𝓡 ((λ s x. x), (λ x. x), (λ x. x), λ x. x)).is_semiring in
    let s = g.S.Semiring.arithmetic in
    let a = c.args.matrix.matrix in
    let has = left_product s c.args.grid.now.side c.args.plan.now a c.args.vector.now c.in_ok-stores.stores.items c.in_ok-stores.ensures c.in_ok-stores-2.field-0.stores.items c.in_ok-stores-2.field-0.refusals.items
    laws c.shape-a.ensures.matrix c.shape-x.ensures.matrix c.requires.vector c.requires.plan c.in_ok-stores-2.ensures.left in
    let made : product_shape a c.args.vector.now ≡ c.with_columns_of.result = sym (c.with_columns_of.ensures ∙ (λ k. record { rows = (c.shape-a.ensures.shape k).rows; cols = (c.shape-x.ensures.shape k).cols })) in
    (a, product s a c.args.vector.now, record { matrix = sym c.shape-a.ensures.shape; product = made; held = has })

pub returns-clause-product : goal.returns-clause-product
returns-clause-product g c =
    let laws = (g.met.S.Semiring g.world.𝓛 g.world.𝓜 g.world.𝓡 ((λ s x. x), (λ x. x), (λ x. x), λ x. x)).is_semiring in
    let s = g.S.Semiring.arithmetic in
    let a = c.args.matrix.matrix in
    let has = left_product s c.args.grid.now.side c.args.plan.now a c.args.vector.now c.in_ok-stores.stores.items c.in_ok-stores.ensures c.in_ok-stores-2.field-0.stores.items c.in_ok-stores-2.field-0.refusals.items
    laws c.shape-a.ensures.matrix c.shape-x.ensures.matrix c.requires.vector c.requires.plan c.in_ok-stores-2.ensures.left in
    let made : product_shape a c.args.vector.now ≡ c.with_columns_of.result = sym (c.with_columns_of.ensures ∙ (λ k. record { rows = (c.shape-a.ensures.shape k).rows; cols = (c.shape-x.ensures.shape k).cols })) in
    c.in_ok-matrix.ensures.product a (product s a c.args.vector.now) (record { matrix = sym c.shape-a.ensures.shape; product = made; held = has })

pub returns-clause-same : goal.returns-clause-same
returns-clause-same g c =
    let laws = (g.met.S.Semiring g.world.𝓛 g.world.𝓜 g.world.𝓡 ((λ s x. x), (λ x. x), (λ x. x), λ x. x)).is_semiring in
    let s = g.S.Semiring.arithmetic in
    let a = c.args.matrix.matrix in
    let has = left_product s c.args.grid.now.side c.args.plan.now a c.args.vector.now c.in_ok-stores.stores.items c.in_ok-stores.ensures c.in_ok-stores-2.field-0.stores.items c.in_ok-stores-2.field-0.refusals.items
    laws c.shape-a.ensures.matrix c.shape-x.ensures.matrix c.requires.vector c.requires.plan c.in_ok-stores-2.ensures.left in
    let made : product_shape a c.args.vector.now ≡ c.with_columns_of.result = sym (c.with_columns_of.ensures ∙ (λ k. record { rows = (c.shape-a.ensures.shape k).rows; cols = (c.shape-x.ensures.shape k).cols })) in
    c.in_ok-matrix.ensures.same a (product s a c.args.vector.now) (record { matrix = sym c.shape-a.ensures.shape; product = made; held = has }) ∙ ap (λ n. record { side = n; matrix = a }) (sym c.requires.side)

pub returns-clause-order : goal.returns-clause-order
returns-clause-order g c =
    let laws = (g.met.S.Semiring g.world.𝓛 g.world.𝓜 g.world.𝓡 ((λ s x. x), (λ x. x), (λ x. x), λ x. x)).is_semiring in
    let s = g.S.Semiring.arithmetic in
    let a = c.args.matrix.matrix in
    let has = left_product s c.args.grid.now.side c.args.plan.now a c.args.vector.now c.in_ok-stores.stores.items c.in_ok-stores.ensures c.in_ok-stores-2.field-0.stores.items c.in_ok-stores-2.field-0.refusals.items
    laws c.shape-a.ensures.matrix c.shape-x.ensures.matrix c.requires.vector c.requires.plan c.in_ok-stores-2.ensures.left in
    let made : product_shape a c.args.vector.now ≡ c.with_columns_of.result = sym (c.with_columns_of.ensures ∙ (λ k. record { rows = (c.shape-a.ensures.shape k).rows; cols = (c.shape-x.ensures.shape k).cols })) in
    let made_is = c.in_ok-matrix.ensures.product a (product s a c.args.vector.now) (record { matrix = sym c.shape-a.ensures.shape; product = made; held = has }) in
    ordered_product s c.args.grid.now.side c.args.plan.now a c.args.vector.now c.in_ok-stores.stores.items c.in_ok-stores.ensures
    c.in_ok-stores-2.field-0.stores.items c.in_ok-stores-2.field-0.refusals.items c.args.engine c.in_ok-matrix.product c.in_ok-stores-2.ensures.order
    (subst (λ (y : Sparse). HasProduct s c.args.grid.now.side a y c.in_ok-stores-2.field-0.stores.items) (sym made_is) has)

pub returns-in_err-matrix-clause-lost : goal.returns-in_err-matrix-clause-lost
returns-in_err-matrix-clause-lost g c =
    let stores = c.in_ok-stores-2.field-0.stores.items in
    let refusals = c.in_ok-stores-2.field-0.refusals.items in
    let fault = subst (λ (counts : List ℕ). IsProductLoss stores counts c.in_err-matrix.field-0.0) c.deref.ensures.value c.in_err-matrix.ensures.fault in
    let lost = ordered_product_loss g.S.Semiring.arithmetic c.args.grid.now.side c.args.plan.now c.args.matrix.matrix c.args.vector.now c.in_ok-stores.stores.items c.in_ok-stores.ensures
    stores refusals c.args.engine c.in_ok-stores-2.ensures.order c.in_err-matrix.field-0.0 fault in
    search (rules, lost)
