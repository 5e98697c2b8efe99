use denote.Param.Send.{sendable}
use Rattle.std.proofs.Common.{◌≡◌, ◌≤◌, length, ap, sym, ◌∙◌, arith}
use Rattle.std.proofs.lemmas.List.{length-append}
use Rattle.cb_matrix.specs.Sparse.{Sparse}
use Rattle.cb_dcsc.specs.Columns.{with_entries}
use Rattle.cb_layout.specs.Distributed.{AreBlocks, Distributed}
use Rattle.cb_grid.specs.Blocks.{glued_blocks}
use Rattle.cb_layout.proofs.BlockColumns.{counted_below}
use Rattle.cb_layout.proofs.AppendedBlocks.{AreJoined, counted, joined_blocks, joined_is_matrix, joined_shapes, blocks_joined}
use Rattle.cb_layout.proofs.distributed.DistributedMatrix.append.Given as given
use Rattle.cb_layout.proofs.distributed.DistributedMatrix.append.Goals.{After-other, In_ok-append_each}
use Rattle.cb_layout.proofs.distributed.DistributedMatrix.append.Goals as goal

-- the two lists of blocks are over one grid, and in order
joined : (g : given.Over) (c : After-other g) → AreJoined g.S.Semiring.arithmetic c.self.inside.grid.side c.self.inside.shape c.self.inside.blocks.items c.other.inside.blocks.items c.args.self c.args.other
joined g c =
    let a = c.self.inside in
    let b = c.other.inside in
    joined_blocks g.S.Semiring.arithmetic a.grid.side b.grid.side a.shape b.shape a.blocks.items b.blocks.items c.args.self c.args.other c.self.invariant.0 c.other.invariant.0 c.self.view_is c.other.view_is c.requires.side c.requires.shape c.requires.order

-- the new blocks are those of both
both : (g : given.Over) (c : In_ok-append_each g) → AreJoined g.S.Semiring.arithmetic c.self.inside.grid.side c.self.inside.shape c.self.inside.blocks.items c.other.inside.blocks.items c.args.self c.args.other →
    let a = c.self.inside in
    let new = c.append_each.new.blocks.items in
    AreBlocks g.S.Semiring.arithmetic a.grid.side a.shape new × (glued_blocks g.S.Semiring.arithmetic a.grid.side a.shape new ≡ with_entries c.args.self.matrix c.args.other.matrix.entries)
both g c j =
    let a = c.self.inside in
    let both = blocks_joined g.S.Semiring.arithmetic (g.met.S.Semiring g.world.𝓛 g.world.𝓜 g.world.𝓡 ((λ s x. x), (λ x. x), (λ x. x), λ x. x)).is_semiring a.grid.side a.shape a.blocks.items c.other.inside.blocks.items j.are j.others j.order c.append_each.new.blocks.items
    c.in_ok-append_each.ensures.count c.in_ok-append_each.ensures.each in
    (both.0, both.1 ∙ j.whole)

pub append_each-requires : goal.append_each-requires
append_each-requires g c =
    let s = g.S.Semiring.arithmetic in
    let laws = (g.met.S.Semiring g.world.𝓛 g.world.𝓜 g.world.𝓡 ((λ s x. x), (λ x. x), (λ x. x), λ x. x)).is_semiring in
    let a = c.self.inside in
    let others = c.other.inside.blocks.items in
    let j = joined g (goal.at.append_each-requires g c).After-other in (
      search sendable,
      (
        search sendable,
        (
          search sendable,
          record {
            count = j.others.count ∙ sym j.are.count;
            shapes = joined_shapes s laws a.grid.side a.shape a.blocks.items others j.are j.others j.order;
            matrices = joined_is_matrix s laws a.grid.side a.shape a.blocks.items others j.are j.others j.order;
          },
        ),
      ),
    )

pub overflow_add-result : goal.overflow_add-result
overflow_add-result g c =
    let s = g.S.Semiring.arithmetic in
    let laws = (g.met.S.Semiring g.world.𝓛 g.world.𝓜 g.world.𝓡 ((λ s x. x), (λ x. x), (λ x. x), λ x. x)).is_semiring in
    let a = c.self.inside in
    let b = c.other.inside in
    let j = joined g (goal.at.overflow_add-result g c).After-other in
    let rows : a.shape.rows ≤ 2147483647 = let v = c.rows.ensures.value in let l = c.rows.ensures.limit in omega arith in
    let cols : a.shape.cols ≤ 2147483647 = let v = c.cols.ensures.value in let l = c.cols.ensures.limit in omega arith in
    let below = counted_below s laws a.grid.side a.shape a.blocks.items c.self.invariant.0 rows cols in
    let others = counted_below s laws a.grid.side a.shape b.blocks.items j.others rows cols in
    let sum = counted s a.grid.side b.grid.side a.shape b.shape a.blocks.items b.blocks.items c.args.self c.args.other j c.self.view_is c.other.view_is in
    let count = c.self.invariant.1 in
    let more = c.other.invariant.1 in
    omega arith

pub invariant_of-result : goal.invariant_of-result
invariant_of-result g c =
    let both = both g (goal.at.invariant_of-result g c).In_ok-append_each (joined g (goal.at.invariant_of-result g c).After-other) in
    let new_count = ap (λ (m : Sparse). length m.entries) both.1 in
    let sum = length-append c.args.self.matrix.entries c.args.other.matrix.entries in
    let old = ap (λ (d : Distributed). length d.matrix.entries) c.self.view_is in
    let old' = ap (λ (d : Distributed). length d.matrix.entries) c.other.view_is in
    let count = c.self.invariant.1 in
    let more = c.other.invariant.1 in
    (both.0, omega arith)

pub returns : goal.returns
returns g c =
    let both = both g (goal.at.returns g c).In_ok-append_each (joined g (goal.at.returns g c).After-other) in
    let side = ap (λ (d : Distributed). d.side) c.self.view_is in
    λ t. record { side = side t; matrix = both.1 t }
