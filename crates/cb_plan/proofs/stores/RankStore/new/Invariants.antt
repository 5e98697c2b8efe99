use Rattle.std.proofs.Common.{◌≡◌, replicate}
use Rattle.cb_plan.specs.declared.stores.Slot.TheVariants.{Empty}
use Rattle.cb_plan.proofs.stores.RankStore.new.Given as goal

abbrev pub invariant-loop : goal.invariant-loop
invariant-loop g l = l.slots.items ≡ replicate l.counter Empty
