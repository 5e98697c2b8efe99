use Rattle.std.proofs.Common.{◌+◌, ◌*◌}
use Rattle.cb_grid.specs.Blocks.{block_at}
use Rattle.cb_grid.proofs.EntriesByTile.{scattered_none, scattered_all, next_is_owed, next_is_scattered}
use Rattle.cb_plan_vectors.specs.PieceTiles.{input_tiles}
use Rattle.cb_plan_vectors.proofs.VectorPieces.{input_tiling, piece_is, glued_pieces_cut}
use Rattle.cb_plan_vectors.proofs.pieces.scatter_input.Goals as goal

pub loop-entry-init : goal.loop-entry-init
loop-entry-init g c =
    let same = c.shape-shape.ensures.shape in
    scattered_none (input_tiles c.args.grid.now.side c.args.vector.now.shape) c.in_ok-blocks.blocks.items (rw same at c.in_ok-blocks.ensures)

pub deliver-requires : goal.deliver-requires
deliver-requires g c =
    let owed = next_is_owed g.S.Semiring.arithmetic c.args.vector.now c.shape-shape.ensures.matrix (input_tiles c.args.grid.now.side) (input_tiling c.args.grid.now.side c.args.vector.now.shape (rw c.side.ensures.value at c.side.ensures.some))
    c.entries-entry-items.result.now c.entries-entry-items.ensures c.loop-entry.entry-index c.loop-entry-test.true c.loop-entry.blocks.items c.loop-entry.invariant
    c.shape-shape.result c.shape-shape.ensures.shape (record { row = 0; column = 0; value = 0 }) _ _ c.in_piece-rank.ensures.rank c.in_piece-rank.ensures.entry in
    record { rank = owed.rank; inside = owed.inside; order = owed.order; value = owed.value; not_zero = owed.not_zero }

pub loop-entry-preserved : goal.loop-entry-preserved
loop-entry-preserved g c =
    next_is_scattered g.S.Semiring.arithmetic c.args.vector.now c.shape-shape.ensures.matrix (input_tiles c.args.grid.now.side) (input_tiling c.args.grid.now.side c.args.vector.now.shape (rw c.side.ensures.value at c.side.ensures.some))
    c.entries-entry-items.result.now c.entries-entry-items.ensures c.loop-entry.entry-index c.loop-entry-test.true c.loop-entry.blocks.items c.loop-entry.invariant
    c.shape-shape.result c.shape-shape.ensures.shape (record { row = 0; column = 0; value = 0 }) _ _ c.in_piece-rank.ensures.rank c.in_piece-rank.ensures.entry _ c.in_ok-deliver.ensures.ok

pub returns-clause-pieces : goal.returns-clause-pieces
returns-clause-pieces g c i j l k =
    let q = c.args.grid.now.side in
    let m = c.args.vector.now in
    let all = scattered_all (input_tiles q m.shape) m.entries _ c.loop-entry.entry-index c.loop-entry.blocks.items c.entries-entry-items.ensures c.loop-entry-test.false c.loop-entry.invariant in
    (piece_is g.S.Semiring.arithmetic g.met.S.Semiring.is_semiring q (rw c.side.ensures.value at c.side.ensures.some) m c.shape-shape.ensures.matrix c.loop-entry.blocks.items all i j l k).0

pub returns-clause-matrices : goal.returns-clause-matrices
returns-clause-matrices g c i j l k =
    let q = c.args.grid.now.side in
    let m = c.args.vector.now in
    let all = scattered_all (input_tiles q m.shape) m.entries _ c.loop-entry.entry-index c.loop-entry.blocks.items c.entries-entry-items.ensures c.loop-entry-test.false c.loop-entry.invariant in
    (piece_is g.S.Semiring.arithmetic g.met.S.Semiring.is_semiring q (rw c.side.ensures.value at c.side.ensures.some) m c.shape-shape.ensures.matrix c.loop-entry.blocks.items all i j l k).1

pub returns-clause-law : goal.returns-clause-law
returns-clause-law g c =
    let s = g.S.Semiring.arithmetic in
    let laws = g.met.S.Semiring.is_semiring in
    let q = c.args.grid.now.side in
    let m = c.args.vector.now in
    let is = c.shape-shape.ensures.matrix in
    let all = scattered_all (input_tiles q m.shape) m.entries _ c.loop-entry.entry-index c.loop-entry.blocks.items c.entries-entry-items.ensures c.loop-entry-test.false c.loop-entry.invariant in
    glued_pieces_cut s laws q (rw c.side.ensures.value at c.side.ensures.some) m is (λ j t. block_at c.loop-entry.blocks.items (t * q + j)) (λ j t l k. (piece_is s laws q (rw c.side.ensures.value at c.side.ensures.some) m is c.loop-entry.blocks.items all t j k l).0)
