use Rattle.std.proofs.Common.{◌≡◌, ◌≤◌, ◌*◌, length, sym, subst, ◌∙◌, arith}
use Rattle.std.specs.Vec.Iter.{into_iter_items}
use Rattle.cb_plan.specs.PlanTables.{IsTable}
use Rattle.cb_plan_slots.proofs.Holdings.{blank_operands}
use Rattle.cb_plan_slots.proofs.LaidOutOperands.{none_laid_out, next_slot, next_side, next_laid_out, all_laid_out}
use Rattle.cb_plan_slots.proofs.placed_stores.laid_out.Goals as goal

pub loop-slot-init : goal.loop-slot-init
loop-slot-init g c =
    let q = c.args.grid.now.side in
    let some : 1 ≤ q * q = (let a = c.ranks.ensures.value in let b = c.ranks.ensures.some in omega arith) in
    none_laid_out g.S.Semiring.arithmetic q c.args.operands.items _ c.in_ok-stores.stores.items c.into_iter-slot-iterator.ensures.into_iter_gives.0
    (blank_operands g.S.Semiring.arithmetic q c.in_ok-stores.stores.items some (rw c.ranks.ensures.value at c.in_ok-stores.ensures)) c.requires.slots c.requires.sides

pub distribute-requires-clause-slot : goal.distribute-requires-clause-slot
distribute-requires-clause-slot g c =
    next_slot g.S.Semiring.arithmetic c.args.grid.now.side c.args.operands.items (into_iter_items c.loop-slot.slot-iterator) (into_iter_items c.next.new.self) (c.in-Some.slot, c.in-Some.matrix) c.loop-slot.stores.items c.loop-slot.invariant c.in-Some.ensures.steps.0

pub lend_slot-requires : goal.lend_slot-requires
lend_slot-requires g c =
    next_slot g.S.Semiring.arithmetic c.args.grid.now.side c.args.operands.items (into_iter_items c.loop-slot.slot-iterator) (into_iter_items c.next.new.self) (c.in-Some.slot, c.in-Some.matrix) c.loop-slot.stores.items c.loop-slot.invariant c.in-Some.ensures.steps.0

pub distribute-requires-clause-table : goal.distribute-requires-clause-table
distribute-requires-clause-table g c =
    let side = next_side g.S.Semiring.arithmetic c.args.grid.now.side c.args.operands.items (into_iter_items c.loop-slot.slot-iterator) (into_iter_items c.next.new.self) (c.in-Some.slot, c.in-Some.matrix) c.loop-slot.stores.items c.loop-slot.invariant c.in-Some.ensures.steps.0 in
    subst (λ n. IsTable (n * n) 256 c.loop-slot.stores.items) (sym side) c.loop-slot.invariant.there.table

pub loop-slot-preserved : goal.loop-slot-preserved
loop-slot-preserved g c =
    next_laid_out g.S.Semiring.arithmetic c.args.grid.now.side c.args.operands.items (into_iter_items c.loop-slot.slot-iterator) (into_iter_items c.next.new.self) (c.in-Some.slot, c.in-Some.matrix) c.loop-slot.stores.items c.loop-slot.invariant c.in-Some.ensures.steps.0 c.lend_slot.new.stores.items (rw c.lend_slot.ensures c.distribute.ensures)

pub returns : goal.returns
returns g c =
    let rest = c.loop-slot.slot-iterator in
    let none : length (into_iter_items rest) ≡ 0 = sym rest.rest.ok.0 ∙ c.in-None.ensures.steps.0 in
    all_laid_out g.S.Semiring.arithmetic c.args.grid.now.side c.args.operands.items (into_iter_items rest) c.loop-slot.stores.items c.loop-slot.invariant none
