use Rattle.std.proofs.Common.{take}
use Rattle.std.specs.List.{AllZip}
use Rattle.cb_product.specs.SeveralProducts.{pairs_in}
use Rattle.cb_rank_work.specs.FactorSlots.{HoldPair}
use Rattle.cb_rank_work.proofs.kernels.factors_in.Given as goal

abbrev pub invariant-loop-pair : goal.invariant-loop-pair
invariant-loop-pair g l = AllZip (HoldPair l.store) (take l.pair-index l.products) (pairs_in l.factors.items)
