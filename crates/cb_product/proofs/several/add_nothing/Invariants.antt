use Rattle.std.proofs.Common.{◌≡◌, drop}
use Rattle.cb_product.specs.SeveralProducts.{pairs_in, plus_products}
use Rattle.cb_product.proofs.several.add_nothing.Given as goal

abbrev pub invariant-loop-factors : goal.invariant-loop-factors
invariant-loop-factors g l =
    let s = g.S.Semiring.arithmetic in
    plus_products s l.accumulator (pairs_in l.products) ≡ plus_products s l.accumulator (pairs_in (drop l.factors-index l.products))
