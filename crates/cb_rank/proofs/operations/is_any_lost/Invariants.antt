use Rattle.std.proofs.Common.{take}
use Rattle.std.specs.Prelude.{All}
use Rattle.cb_rank.specs.AddedProducts.{HasNoneLost}
use Rattle.cb_rank.proofs.operations.is_any_lost.Given as goal

abbrev pub invariant-loop-pair : goal.invariant-loop-pair
invariant-loop-pair g l = All (HasNoneLost l.store l.acc) (take l.pair-index l.products)
