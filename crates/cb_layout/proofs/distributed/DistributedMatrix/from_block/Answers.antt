use Rattle.std.proofs.Common.{◌≡◌, ◌∙◌}
use Rattle.cb_grid.specs.Blocks.{glued_blocks}
use Rattle.cb_layout.proofs.OneBlock.{one_glued}
use Rattle.cb_layout.proofs.distributed.DistributedMatrix.from_block.Goals as goal

pub returns : goal.returns
returns g c =
    let s = g.S.Semiring.arithmetic in
    let b = c.args.block in
    let side : c.single.result.side ≡ 1 = λ t. (c.single.ensures t).side in
    let whole : glued_blocks s c.single.result.side c.shape-shape.result c.in_ok-blocks.blocks.items ≡ b =
    (λ t. glued_blocks s (side t) (c.shape-shape.ensures.shape t) c.in_ok-blocks.blocks.items) ∙ one_glued s g.met.S.Semiring.is_semiring b c.shape-shape.ensures.matrix c.in_ok-blocks.blocks.items c.in_ok-blocks.ensures.items in
    c.from_blocks.ensures ∙ (λ t. record { side = side t; matrix = whole t })
