use Rattle.std.proofs.Common.{◌∙◌, arith}
use Rattle.cb_layout.proofs.GrownBlocks.{empty_blocks_of}
use Rattle.cb_layout.proofs.distributed.DistributedMatrix.with_room.Goals as goal

pub from_blocks-requires-clause-count : goal.from_blocks-requires-clause-count
from_blocks-requires-clause-count g c =
    let v = c.side.ensures.value in
    let some = c.side.ensures.some in
    let few = c.side.ensures.limit in
    (empty_blocks_of g.S.Semiring.arithmetic g.met.S.Semiring.is_semiring c.args.grid.side (omega arith) (omega arith) c.args.shape c.in_ok-blocks.blocks.items c.in_ok-blocks.ensures).0.count

pub from_blocks-requires-clause-shapes : goal.from_blocks-requires-clause-shapes
from_blocks-requires-clause-shapes g c =
    let v = c.side.ensures.value in
    let some = c.side.ensures.some in
    let few = c.side.ensures.limit in
    (empty_blocks_of g.S.Semiring.arithmetic g.met.S.Semiring.is_semiring c.args.grid.side (omega arith) (omega arith) c.args.shape c.in_ok-blocks.blocks.items c.in_ok-blocks.ensures).0.shapes

pub returns : goal.returns
returns g c =
    let v = c.side.ensures.value in
    let some = c.side.ensures.some in
    let few = c.side.ensures.limit in
    let both = empty_blocks_of g.S.Semiring.arithmetic g.met.S.Semiring.is_semiring c.args.grid.side (omega arith) (omega arith) c.args.shape c.in_ok-blocks.blocks.items c.in_ok-blocks.ensures in
    c.from_blocks.ensures
    ∙ (λ t. record { side = c.args.grid.side; matrix = both.1 t })
