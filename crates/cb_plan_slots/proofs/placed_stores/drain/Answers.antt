use Rattle.std.proofs.Common.{rules, ◌<◌, length, sym, ap, ◌∙◌, arith}
use Rattle.cb_plan.specs.declared.stores.Slot.TheVariants.{Sheet}
use Rattle.cb_plan_slots.proofs.DrainedSlots.{draining_next}
use Rattle.cb_plan_slots.proofs.placed_stores.drain.Goals as goal

pub loop-rank-preserved : goal.loop-rank-preserved
loop-rank-preserved g c =
    let h = c.loop-rank.invariant.drained in
    let inside : c.loop-rank.rank < length c.loop-rank.stores.items = let e = h.ranks in omega arith in
    record {
      drained = rw c.push_reserved.ensures.items (draining_next c.args.slot c.loop-rank.rank c.args.stores.now.items c.loop-rank.stores.items c.loop-rank.blocks.items c.index_mut.result.now c.take.new.self c.take.result c.in-Ok.block c.requires.slot h inside c.index_mut.ensures.value c.take.ensures.value c.take.ensures.left (c.in-Sheet.is ∙ ap Sheet (sym c.in-Ok.ensures.ok)));
      room = search rules;
    }
