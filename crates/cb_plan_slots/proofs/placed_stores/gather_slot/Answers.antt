use Rattle.std.proofs.Common.{ap, ◌∙◌}
use Rattle.cb_plan_slots.specs.Answers.{over_grid}
use Rattle.cb_plan_slots.proofs.GatheredParts.{filled_there, shapes_there, glued_gathered, held_gathered}
use Rattle.cb_plan_slots.proofs.placed_stores.gather_slot.Goals as goal

pub drain-requires-clause-filled : goal.drain-requires-clause-filled
drain-requires-clause-filled g c =
    filled_there c.args.grid.now.side c.args.shape c.args.slot c.args.stores.items c.requires.meant.0 c.requires.meant.1 c.requires.table.rows c.requires.meant.2

pub from_blocks-requires-clause-count : goal.from_blocks-requires-clause-count
from_blocks-requires-clause-count g c = c.in_ok-blocks.ensures.count ∙ c.requires.table.rows

pub from_blocks-requires-clause-shapes : goal.from_blocks-requires-clause-shapes
from_blocks-requires-clause-shapes g c i j l m =
    shapes_there c.args.slot c.args.stores.items c.in_ok-blocks.blocks.items c.in_ok-blocks.ensures.count c.in_ok-blocks.ensures.blocks c.requires.meant.0 c.requires.meant.1 c.args.grid.now.side c.args.shape c.requires.table.rows c.requires.meant.2 i j l m

pub returns-clause-ok : goal.returns-clause-ok
returns-clause-ok g c = λ meant left.
    c.from_blocks.ensures ∙ ap (over_grid c.args.grid.now.side)
    (glued_gathered c.args.slot c.args.stores.items c.in_ok-blocks.blocks.items c.in_ok-blocks.ensures.count c.in_ok-blocks.ensures.blocks meant left g.S.Semiring.arithmetic c.args.grid.now.side c.args.shape)

pub returns-clause-held : goal.returns-clause-held
returns-clause-held g c =
    c.from_blocks.ensures ∙ ap (over_grid c.args.grid.now.side)
    (held_gathered c.args.slot c.args.stores.items c.in_ok-blocks.blocks.items c.in_ok-blocks.ensures.count c.in_ok-blocks.ensures.blocks g.S.Semiring.arithmetic c.args.grid.now.side c.args.shape)
