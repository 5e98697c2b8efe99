use Rattle.std.proofs.Common.{[], ◌∷◌}
use Rattle.std.specs.List.{range_with_len, flat_map}
use Rattle.cb_plan_parts.specs.Growth.{Grew}
use Rattle.cb_plan_operations.specs.VectorPlans.{works}
use Rattle.cb_plan_transfers.specs.Pieces.{sum_cut}
use Rattle.cb_plan_transfers.proofs.pieces.cut_sum.Given as goal

abbrev pub invariant-loop-k : goal.invariant-loop-k
invariant-loop-k l = Grew (flat_map (λ k. works l.fn.rank (sum_cut l.fn.grid.side l.fn.shape l.fn.rank k ∷ [])) (range_with_len 0 l.k)) l.fn.plan l.plan
