use Rattle.std.proofs.Common.{◌+◌, ◌*◌, ap, sym, ◌∙◌}
use Rattle.cb_matrix.specs.Sparse.{Sparse}
use Rattle.cb_grid.specs.Parts.{part_shape}
use Rattle.cb_grid.specs.Blocks.{block_at}
use Rattle.cb_plan_tests.proofs.layout.cut_and_glued.Goals as goal

pub gather-requires-clause-shapes : goal.gather-requires-clause-shapes
gather-requires-clause-shapes c i j l k =
    ap (λ bs. (block_at bs (i * c.args.grid.now.side + j)).shape) c.deref.ensures.value
    ∙ ap (λ (b : Sparse). b.shape) (c.in_ok-blocks.ensures.blocks i j l k)
    ∙ ap (λ s. part_shape c.args.grid.now.side s i j) (sym c.shape.ensures.shape)
