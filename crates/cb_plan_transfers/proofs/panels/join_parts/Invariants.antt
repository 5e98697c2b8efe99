use Rattle.std.proofs.Common.{[], ◌∷◌}
use Rattle.std.specs.List.{range_with_len, flat_map}
use Rattle.cb_plan_parts.specs.Growth.{Grew}
use Rattle.cb_plan_operations.specs.VectorPlans.{works}
use Rattle.cb_plan_transfers.specs.Panels.{placed_part}
use Rattle.cb_plan_transfers.proofs.panels.join_parts.Given as goal

abbrev pub invariant-loop-i : goal.invariant-loop-i
invariant-loop-i l = Grew (flat_map (λ i. works l.fn.rank (placed_part l.fn.grid.side l.fn.shape l.fn.left i ∷ [])) (range_with_len 0 l.i)) l.fn.plan l.plan
