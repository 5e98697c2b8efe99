use Rattle.std.proofs.Common.{◌≡◌, ℕ, ◌+◌, ◌*◌, ◌<◌, List, ap, subst, ◌∙◌}
use Rattle.cb_matrix.specs.Sparse.{Sparse}
use Rattle.cb_grid.specs.Blocks.{block_at, block_of}
use Rattle.cb_layout.specs.Distributed.{Distributed}
use Rattle.cb_layout.proofs.BlockColumns.{blocks_are_cuts}
use Rattle.cb_layout.proofs.distributed.DistributedMatrix.blocks.Goals as goal

pub returns-clause-blocks : goal.returns-clause-blocks
returns-clause-blocks g c =
    let s = g.S.Semiring.arithmetic in
    let a = c.self.inside in
    subst (λ (d : Distributed). (i j : ℕ) → i < d.side → j < d.side → block_at c.deref.result.now (i * d.side + j) ≡ block_of s d.side d.matrix i j) c.self.view_is
    (λ i j l k. ap (λ (bs : List Sparse). block_at bs (i * a.grid.side + j)) c.deref.ensures.value ∙ blocks_are_cuts s g.met.S.Semiring.is_semiring a.grid.side a.shape a.blocks.items c.self.invariant.0 i j l k)
