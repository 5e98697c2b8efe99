use Rattle.std.proofs.Common.{◌≡◌, ◌≤◌, take}
use Rattle.std.specs.Prelude.{count_by}
use Rattle.cb_plan.specs.Stores.{is_filled}
use Rattle.cb_plan.proofs.stores.count_filled.Given as goal

abbrev pub invariant-loop-slot : goal.invariant-loop-slot
invariant-loop-slot g l =
    record { count : l.count ≡ count_by is_filled (take l.slot-index l.slots); limit : l.count ≤ l.slot-index }
