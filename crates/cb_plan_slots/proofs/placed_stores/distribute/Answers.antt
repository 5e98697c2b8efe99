use Rattle.std.proofs.Common.{◌*◌}
use Rattle.cb_grid.specs.Blocks.{block_at}
use Rattle.cb_plan_slots.specs.Slots.{block_of_rank}
use Rattle.cb_plan_slots.proofs.FilledSlots.{filled_with, of_ranks}
use Rattle.cb_plan_slots.proofs.placed_stores.distribute.Goals as goal

pub returns : goal.returns
returns g c =
    let s = g.S.Semiring.arithmetic in
    let q = c.args.matrix.side in
    let m = c.args.matrix.matrix in
    let blocks = c.into_blocks.result.items in
    filled_with (q * q) c.args.slot (block_at blocks) (block_of_rank s q m) c.args.stores.now.items c.fill.new.stores.items (of_ranks s q m blocks c.into_blocks.ensures.blocks) (rw c.requires.table.rows at c.fill.ensures)
