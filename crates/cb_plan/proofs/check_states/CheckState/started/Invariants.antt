use Rattle.std.proofs.Common.{◌≡◌, drop}
use Rattle.cb_plan.specs.Checks.{started, started_from, slots_in, lanes_in, none_shut}
use Rattle.cb_plan.proofs.check_states.CheckState.started.Given as goal

abbrev pub invariant-loop-start : goal.invariant-loop-start
invariant-loop-start l =
    (l.state.ranks ≡ l.fn.ranks) × (lanes_in l.state.shut ≡ none_shut) × (started_from (drop l.start-index l.fn.starts) (slots_in l.state.slots) ≡ started l.fn.starts)
