use Rattle.std.proofs.Common.{◌≡◌, drop}
use Rattle.cb_plan.specs.Checks.{all_below}
use Rattle.cb_plan.proofs.check_states.all_exist.Given as goal

abbrev pub invariant-loop-slot : goal.invariant-loop-slot
invariant-loop-slot l = all_below 256 (drop l.slot-index l.slots) ≡ all_below 256 l.slots
