use Rattle.std.proofs.Common.{refl}
use Rattle.cb_reshape.proofs.PartValues.{cut_is, both}
use Rattle.cb_reshape.proofs.cut.Goals as goal

pub returns : goal.returns
returns g c =
    both c.moved.result _ _ _ c.moved.ensures.entries c.moved.ensures.matrix
    (λ m entries matrix. cut_is g.S.Semiring.arithmetic g.met.S.Semiring.is_semiring c.args.block.now m c.args.rows c.args.cols c.shape_within-shape.result _ c.requires.rows c.requires.cols c.shape_within-shape.ensures refl matrix entries)
