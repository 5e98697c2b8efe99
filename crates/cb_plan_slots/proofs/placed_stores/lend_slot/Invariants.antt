use Rattle.std.proofs.Common.{◌≡◌}
use Rattle.cb_plan_slots.proofs.placed_stores.lend_slot.Given as goal

-- a block that is lent is the same block
abbrev pub invariant-loop-rank : goal.invariant-loop-rank
invariant-loop-rank g l = l.stores.items ≡ l.fn.stores.items
