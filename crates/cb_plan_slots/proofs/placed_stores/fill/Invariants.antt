use Rattle.std.proofs.Common.{length}
use Rattle.cb_plan_slots.proofs.FilledSlots.{FilledSoFar}
use Rattle.cb_plan_slots.proofs.placed_stores.fill.Given as goal

-- the ranks after those whose blocks are left have theirs
abbrev pub invariant-loop-block : goal.invariant-loop-block
invariant-loop-block g l =
    FilledSoFar l.fn.slot (length l.fn.stores.items) l.fn.blocks.items l.blocks.items l.fn.stores.items l.stores.items

abbrev pub decreases-loop-block : goal.decreases-loop-block
decreases-loop-block g l = goal.left-loop-block g l
