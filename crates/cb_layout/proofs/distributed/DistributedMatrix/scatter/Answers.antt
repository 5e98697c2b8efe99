use Rattle.std.proofs.Common.{ap, ◌∙◌}
use Rattle.cb_matrix.specs.Sparse.{Extent}
use Rattle.cb_grid.specs.Blocks.{glued_blocks}
use Rattle.cb_layout.proofs.distributed.DistributedMatrix.scatter.Goals as goal

pub returns : goal.returns
returns g c =
    let s = g.S.Semiring.arithmetic in
    let q = c.args.grid.side in
    let bs = c.in_ok-blocks.blocks.items in
    c.from_blocks.ensures
    ∙ (λ t. record { side = q; matrix = (ap (λ (e : Extent). glued_blocks s q e bs) c.shape.ensures.shape ∙ c.in_ok-blocks.ensures.law) t })
