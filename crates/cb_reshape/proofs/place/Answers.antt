use Rattle.cb_reshape.proofs.PartValues.{placed_is, both, whole_part}
use Rattle.cb_reshape.proofs.place.Goals as goal

pub returns : goal.returns
returns g c =
    both c.moved.result _ _ _ c.moved.ensures.entries c.moved.ensures.matrix
    (λ m entries matrix. placed_is g.S.Semiring.arithmetic g.met.S.Semiring.is_semiring c.args.block.now m c.args.corner c.args.shape _ (whole_part c.args.corner _ _ _ _ c.rows.ensures.value c.cols.ensures.value c.shape-inner.ensures.shape) matrix entries)
