use Rattle.std.specs.Vec.Iter.{into_iter_items}
use Rattle.cb_plan_slots.proofs.LaidOutOperands.{LaidOutSoFar}
use Rattle.cb_plan_slots.proofs.placed_stores.laid_out.Given as goal

-- the blocks of the operands so far are in their slots
abbrev pub invariant-loop-slot : goal.invariant-loop-slot
invariant-loop-slot g l = LaidOutSoFar g.S.Semiring.arithmetic l.grid.side l.fn.operands.items (into_iter_items l.slot-iterator) l.stores.items
