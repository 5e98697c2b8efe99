use Rattle.std.proofs.Common.{◌≡◌}
use Rattle.cb_rank_tests.proofs.plans.plan_of.Given as goal

abbrev pub invariant-loop-act : goal.invariant-loop-act
invariant-loop-act l = l.plan.ranks ≡ 2
