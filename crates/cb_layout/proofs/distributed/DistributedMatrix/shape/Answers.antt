use Rattle.std.proofs.Common.{subst}
use Rattle.cb_matrix.specs.Sparse.{IsMatrix}
use Rattle.cb_layout.specs.Distributed.{Distributed}
use Rattle.cb_layout.proofs.BlockColumns.{whole_is_matrix}
use Rattle.cb_layout.proofs.distributed.DistributedMatrix.shape.Goals as goal

pub returns-clause-matrix : goal.returns-clause-matrix
returns-clause-matrix g c =
    let s = g.S.Semiring.arithmetic in
    let a = c.self.inside in
    subst (λ (d : Distributed). IsMatrix s d.matrix) c.self.view_is (whole_is_matrix s g.met.S.Semiring.is_semiring a.grid.side a.shape a.blocks.items c.self.invariant.0)
