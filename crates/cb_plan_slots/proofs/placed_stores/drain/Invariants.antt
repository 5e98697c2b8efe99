use Rattle.std.proofs.Common.{◌≤◌, length, vec_capacity}
use Rattle.cb_plan_slots.proofs.DrainedSlots.{DrainedSoFar}
use Rattle.cb_plan_slots.proofs.placed_stores.drain.Given as goal

-- the blocks of the ranks so far, and room for those of all
abbrev pub invariant-loop-rank : goal.invariant-loop-rank
invariant-loop-rank g l = record {
  drained : DrainedSoFar l.fn.slot l.rank l.fn.stores.items l.stores.items l.blocks.items;
  room : length l.fn.stores.items ≤ vec_capacity l.blocks;
}
