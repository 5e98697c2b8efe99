use Rattle.std.proofs.Common.{[], ◌∷◌}
use Rattle.std.specs.List.{range_with_len, flat_map}
use Rattle.cb_plan_parts.specs.Growth.{Grew}
use Rattle.cb_plan_operations.specs.VectorPlans.{works}
use Rattle.cb_plan_transfers.specs.Rounds.{add_to}
use Rattle.cb_plan_transfers.proofs.works.add_up.Given as goal

abbrev pub invariant-loop-k : goal.invariant-loop-k
invariant-loop-k l = Grew (flat_map (λ k. works l.fn.rank (add_to l.fn.first k ∷ [])) (range_with_len 0 l.k)) l.fn.plan l.plan
