use Rattle.std.proofs.Common.{◌≡◌, ◌-◌, length, vec_len, refl, arith}
use Rattle.std.specs.Prelude.{IsSome}
use Rattle.cb_matrix.specs.Sparse.{Sparse}
use Rattle.cb_matrix.specs.Values.{empty_matrix}
use Rattle.cb_grid.specs.Blocks.{block_at}
use Rattle.cb_plan_slots.proofs.FilledSlots.{filling_next}
use Rattle.cb_plan_slots.proofs.placed_stores.fill.Goals as goal

pub loop-block-preserved : goal.loop-block-preserved
loop-block-preserved g c =
    let none : Sparse = empty_matrix (record { rows = 0; cols = 0 }) in
    let rest = c.loop-block.blocks.items in
    let size : vec_len c.loop-block.blocks ≡ length rest = omega arith in
    let some : IsSome c.pop.result = rw c.in-Some.is refl in
    let there = rw size at (c.in-Some.ensures.value none (c.pop.ensures.variant.0 some)) in
    let last : c.in-Some.block ≡ block_at rest (length rest - 1) = cc in
    filling_next c.args.slot (length c.args.stores.now.items) c.len-rank.result c.args.blocks.items rest c.pop.new.self.items c.args.stores.now.items c.loop-block.stores.items c.in-Some.block c.index_mut.result.now c.put.new.self c.requires.slot c.requires.count c.loop-block.invariant (omega (arith, c.in-Some.ensures.len)) (omega (arith, c.in-Some.ensures.len)) (rw size at c.pop.ensures.rest) last c.index_mut.ensures.value c.put.ensures.value
