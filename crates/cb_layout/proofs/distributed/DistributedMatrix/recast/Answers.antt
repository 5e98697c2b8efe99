use Rattle.std.proofs.Common.{◌≡◌, List, length, sym, ap, subst, ◌∙◌}
use Rattle.std.specs.Prelude.{All}
use Rattle.cb_matrix.specs.Sparse.{Sparse}
use Rattle.cb_layout.specs.Distributed.{Distributed, AreBlocks}
use Rattle.cb_grid.specs.Blocks.{glued_blocks}
use Rattle.cb_layout.proofs.Recasts.{IsStored, blocks_there, values_there}
use Rattle.cb_layout.proofs.distributed.DistributedMatrix.recast.Goals as goal

pub recast_blocks-requires : goal.recast_blocks-requires
recast_blocks-requires g c =
    let t = g.T.Semiring.arithmetic in
    let a = c.self.inside in
    let values = subst (λ (d : Distributed). All (IsStored t) d.matrix.entries) (sym c.self.view_is) c.requires.values in
    values_there g.S.Semiring.arithmetic t g.met.S.Semiring.is_semiring g.met.T.Semiring.is_semiring a.grid.side a.shape a.blocks.items c.self.invariant.0 values

pub invariant_of-result : goal.invariant_of-result
invariant_of-result g c =
    let t = g.T.Semiring.arithmetic in
    let a = c.self.inside in
    let values = subst (λ (d : Distributed). All (IsStored t) d.matrix.entries) (sym c.self.view_is) c.requires.values in
    let both = blocks_there g.S.Semiring.arithmetic t g.met.S.Semiring.is_semiring g.met.T.Semiring.is_semiring a.grid.side a.shape a.blocks.items c.self.invariant.0 values in
    subst (λ (bs : List Sparse). AreBlocks t a.grid.side a.shape bs × (a.len ≡ length (glued_blocks t a.grid.side a.shape bs).entries)) (sym c.in_ok-recast_blocks.ensures)
    (both.0, c.self.invariant.1 ∙ ap (λ (m : Sparse). length m.entries) (sym both.1))

pub returns : goal.returns
returns g c =
    let t = g.T.Semiring.arithmetic in
    let a = c.self.inside in
    let values = subst (λ (d : Distributed). All (IsStored t) d.matrix.entries) (sym c.self.view_is) c.requires.values in
    let both = blocks_there g.S.Semiring.arithmetic t g.met.S.Semiring.is_semiring g.met.T.Semiring.is_semiring a.grid.side a.shape a.blocks.items c.self.invariant.0 values in
    (λ i. record { side = a.grid.side; matrix = (ap (glued_blocks t a.grid.side a.shape) c.in_ok-recast_blocks.ensures ∙ both.1) i }) ∙ c.self.view_is
