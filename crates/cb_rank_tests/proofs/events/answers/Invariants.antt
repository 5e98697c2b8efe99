use Rattle.std.proofs.Common.{◌≡◌}
use Rattle.cb_rank_tests.proofs.events.answers.Given as goal

abbrev pub invariant-loop-event : goal.invariant-loop-event
invariant-loop-event l = l.world.plan ≡ l.fn.world.plan
