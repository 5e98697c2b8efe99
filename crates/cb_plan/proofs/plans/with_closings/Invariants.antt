use Rattle.std.proofs.Common.{◌≡◌, ◌++◌}
use Rattle.std.specs.Prelude.{flat_map}
use Rattle.std.specs.List.{range_with_len}
use Rattle.cb_plan.specs.Closings.{shut_from}
use Rattle.cb_plan.proofs.plans.with_closings.Given as goal

abbrev pub invariant-loop-from : goal.invariant-loop-from
invariant-loop-from l = l.acts.items ≡ l.fn.stored.items ++ flat_map (shut_from l.ranks) (range_with_len 0 l.from)
