use Rattle.std.proofs.Common.{◌≡◌, ◌≤◌, length, ap, arith, subst, sym}
use Rattle.std.proofs.lemmas.List.{length_push}
use Rattle.cb_matrix.specs.Sparse.{Sparse}
use Rattle.cb_layout.specs.Distributed.{AreBlocks, Distributed}
use Rattle.cb_grid.specs.Blocks.{glued_blocks}
use Rattle.cb_layout.proofs.BlockColumns.{counted_below}
use Rattle.cb_layout.proofs.GrownBlocks.{rank_grown, inside_grown, order_grown, blocks_grown}
use Rattle.cb_layout.proofs.distributed.DistributedMatrix.push.Goals as goal

pub deliver-requires-clause-rank : goal.deliver-requires-clause-rank
deliver-requires-clause-rank g c =
    let a = c.self.inside in
    rw c.in_block-rank.ensures.rank (rank_grown _ g.met.S.Semiring.is_semiring a.grid.side a.shape a.blocks.items c.self.invariant.0 c.args.self.now.matrix (ap (λ (d : Distributed). d.matrix) c.self.view_is) c.args.entry c.requires.inside c.requires.order)

pub deliver-requires-clause-inside : goal.deliver-requires-clause-inside
deliver-requires-clause-inside g c =
    let a = c.self.inside in
    rw (c.in_block-rank.ensures.rank, c.in_block-rank.ensures.entry)
    (inside_grown _ g.met.S.Semiring.is_semiring a.grid.side a.shape a.blocks.items c.self.invariant.0 c.args.self.now.matrix (ap (λ (d : Distributed). d.matrix) c.self.view_is) c.args.entry c.requires.inside c.requires.order)

pub deliver-requires-clause-order : goal.deliver-requires-clause-order
deliver-requires-clause-order g c =
    let a = c.self.inside in
    rw (c.in_block-rank.ensures.rank, c.in_block-rank.ensures.entry)
    (order_grown _ g.met.S.Semiring.is_semiring a.grid.side a.shape a.blocks.items c.self.invariant.0 c.args.self.now.matrix (ap (λ (d : Distributed). d.matrix) c.self.view_is) c.args.entry c.requires.inside c.requires.order)

pub overflow_add-self : goal.overflow_add-self
overflow_add-self g c =
    let s = g.S.Semiring.arithmetic in
    let laws = g.met.S.Semiring.is_semiring in
    let a = c.self.inside in
    let rows : a.shape.rows ≤ 2147483647 = let v = c.rows.ensures.value in let l = c.rows.ensures.limit in omega arith in
    let cols : a.shape.cols ≤ 2147483647 = let v = c.cols.ensures.value in let l = c.cols.ensures.limit in omega arith in
    let below = counted_below s laws a.grid.side a.shape a.blocks.items c.self.invariant.0 rows cols in
    let count = c.self.invariant.1 in
    omega arith

pub invariant_of-self-2 : goal.invariant_of-self-2
invariant_of-self-2 g c =
    let s = g.S.Semiring.arithmetic in
    let laws = g.met.S.Semiring.is_semiring in
    let a = c.self.inside in
    let whole = ap (λ (d : Distributed). d.matrix) c.self.view_is in
    let both = blocks_grown s laws a.grid.side a.shape a.blocks.items c.self.invariant.0 c.args.self.now.matrix whole c.args.entry c.requires.inside c.requires.order c.requires.value c.requires.not_zero _ (rw (c.in_block-rank.ensures.rank, c.in_block-rank.ensures.entry) at c.in_ok-deliver.ensures.ok) in
    let old : length (glued_blocks s a.grid.side a.shape a.blocks.items).entries ≡ length c.args.self.now.matrix.entries = ap (λ (m : Sparse). length m.entries) whole in
    let one = length_push c.args.self.now.matrix.entries c.args.entry in
    let new = ap (λ (m : Sparse). length m.entries) both.1 in
    let count = c.self.invariant.1 in
    (both.0, omega arith)

pub returns-clause-ok : goal.returns-clause-ok
returns-clause-ok g c =
    let s = g.S.Semiring.arithmetic in
    let laws = g.met.S.Semiring.is_semiring in
    let a = c.self.inside in
    let whole = ap (λ (d : Distributed). d.matrix) c.self.view_is in
    let both = blocks_grown s laws a.grid.side a.shape a.blocks.items c.self.invariant.0 c.args.self.now.matrix whole c.args.entry c.requires.inside c.requires.order c.requires.value c.requires.not_zero _ (rw (c.in_block-rank.ensures.rank, c.in_block-rank.ensures.entry) at c.in_ok-deliver.ensures.ok) in
    let side = ap (λ (d : Distributed). d.side) c.self.view_is in
    λ t. record { side = side t; matrix = both.1 t }

pub invariant_of-self : goal.invariant_of-self
invariant_of-self g c =
    let s = g.S.Semiring.arithmetic in
    let a = c.self.inside in
    subst (λ bs. AreBlocks s a.grid.side a.shape bs × (a.len ≡ length (glued_blocks s a.grid.side a.shape bs).entries)) (sym c.in_err-deliver.ensures.err) c.self.invariant
