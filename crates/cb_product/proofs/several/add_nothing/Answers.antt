use Rattle.std.proofs.Common.{sym, ap, ◌∙◌}
use Rattle.std.proofs.lemmas.List.{drop_all}
use Rattle.cb_matrix.specs.Sparse.{Extent}
use Rattle.cb_product.specs.SeveralProducts.{pair_of, pairs_in, plus_products, MakeShape}
use Rattle.cb_product.proofs.SeveralProducts.{mapped_has, one_nothing}
use Rattle.cb_product.proofs.several.add_nothing.Goals as goal

pub prove_eq-unreachable-requires : goal.prove_eq-unreachable-requires
prove_eq-unreachable-requires g c =
    let fits = mapped_has (MakeShape c.args.accumulator.now.shape) pair_of c.args.products.now c.loop-factors.factors-index c.factors-item.result c.loop-factors-test.true c.factors-item.is c.requires in
    c.if-prove_eq.true
    (c.rows.ensures.value ∙ ap (λ (e : Extent). e.rows) (c.shape.ensures.shape ∙ fits.shape) ∙ sym (c.rows-in-loop-factors.ensures.value ∙ ap (λ (e : Extent). e.rows) c.shape-in-loop-factors.ensures.shape))

pub has_no_terms-requires : goal.has_no_terms-requires
has_no_terms-requires g c =
    let fits = mapped_has (MakeShape c.args.accumulator.now.shape) pair_of c.args.products.now c.loop-factors.factors-index c.factors-item.result c.loop-factors-test.true c.factors-item.is c.requires in
    fits.agree

pub loop-factors-preserved : goal.loop-factors-preserved
loop-factors-preserved g c =
    let fits = mapped_has (MakeShape c.args.accumulator.now.shape) pair_of c.args.products.now c.loop-factors.factors-index c.factors-item.result c.loop-factors-test.true c.factors-item.is c.requires in
    let none = c.has_no_terms.ensures.none c.if-not-has_no_terms.false in
    c.loop-factors.invariant
    ∙ one_nothing g.S.Semiring.arithmetic g.met.S.Semiring.is_semiring c.args.accumulator.now c.args.products.now c.loop-factors.factors-index c.factors-item.result c.shape.ensures.matrix c.loop-factors-test.true c.factors-item.is
    c.has_no_terms.ensures.left c.has_no_terms.ensures.right fits none

pub returns : goal.returns
returns g c = λ _.
    sym (c.loop-factors.invariant ∙ ap (λ fs. plus_products g.S.Semiring.arithmetic c.args.accumulator.now (pairs_in fs)) (drop_all c.loop-factors.factors-index c.args.products.now c.loop-factors-test.false))
