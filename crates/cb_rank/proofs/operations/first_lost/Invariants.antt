use Rattle.std.proofs.Common.{◌≡◌, true, drop}
use Rattle.cb_plan.specs.Checks.{all_below}
use Rattle.cb_rank.specs.Halves.{first_lost}
use Rattle.cb_rank.proofs.operations.first_lost.Given as goal

abbrev pub invariant-loop-slot : goal.invariant-loop-slot
invariant-loop-slot g l =
    record {
      inside : all_below 256 (drop l.slot-index l.slots) ≡ true;
      rest : first_lost l.store l.slots ≡ first_lost l.store (drop l.slot-index l.slots);
    }
