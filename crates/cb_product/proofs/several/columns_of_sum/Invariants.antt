use Rattle.std.proofs.Common.{take}
use Rattle.cb_product.specs.SeveralProducts.{pairs_in, AreColumnsOf}
use Rattle.cb_product.proofs.several.columns_of_sum.Given as goal

abbrev pub invariant-loop-factors : goal.invariant-loop-factors
invariant-loop-factors g l = AreColumnsOf l.columns.items l.accumulator (pairs_in (take l.factors-index l.products))
