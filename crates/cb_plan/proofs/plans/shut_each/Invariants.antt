use Rattle.std.proofs.Common.{◌≡◌, ◌++◌}
use Rattle.std.specs.Prelude.{flat_map}
use Rattle.std.specs.List.{range_with_len}
use Rattle.cb_plan.specs.Closings.{shut_lane}
use Rattle.cb_plan.proofs.plans.shut_each.Given as goal

abbrev pub invariant-loop-to : goal.invariant-loop-to
invariant-loop-to l = l.acts.items ≡ l.fn.acts.items ++ flat_map (shut_lane l.from) (range_with_len 0 l.to)
