use Rattle.std.proofs.Common.{◌≡◌, true, drop}
use Rattle.cb_plan.specs.Checks.{all_below, all_filled, slots_in}
use Rattle.cb_plan.proofs.check_states.CheckState.are_filled.Given as goal

abbrev pub invariant-loop-slot : goal.invariant-loop-slot
invariant-loop-slot l = record {
  exist : all_below 256 (drop l.slot-index l.slots) ≡ true;
  filled : all_filled (slots_in l.self.slots l.rank) (drop l.slot-index l.slots) ≡ all_filled (slots_in l.self.slots l.rank) l.slots;
}
