use Rattle.std.proofs.Common.{◌≡◌, replicate}
use Rattle.cb_plan.specs.declared.stores.Slot.TheVariants.{Empty}
use Rattle.cb_plan_slots.proofs.placed_stores.blank.Given as goal

-- the stores so far
abbrev pub invariant-loop : goal.invariant-loop
invariant-loop g l = l.stores.items ≡ replicate l.counter (replicate 256 Empty)
