use Rattle.std.proofs.Common.{[], ◌∷◌}
use Rattle.std.specs.List.{range_with_len, flat_map}
use Rattle.cb_plan_parts.specs.Growth.{Grew}
use Rattle.cb_plan_operations.specs.VectorPlans.{works, next_summand}
use Rattle.cb_plan_operations.proofs.vector_plans.add_others.Given as goal

abbrev pub invariant-loop-s : goal.invariant-loop-s
invariant-loop-s l = Grew (flat_map (λ s. works l.fn.rank (next_summand s ∷ [])) (range_with_len 0 l.s)) l.fn.plan l.plan
