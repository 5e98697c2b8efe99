use Rattle.std.proofs.Common.{◌≡◌}
use Rattle.cb_plan_tests.proofs.plan.faults.plan_of.Given as goal

abbrev pub invariant-loop-step : goal.invariant-loop-step
invariant-loop-step l = l.plan.ranks ≡ 2
