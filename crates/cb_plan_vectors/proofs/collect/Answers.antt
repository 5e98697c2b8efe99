use Rattle.std.proofs.Common.{◌+◌, ◌*◌, List, sym, ap, ◌∙◌}
use Rattle.cb_matrix.specs.Sparse.{Sparse, Extent}
use Rattle.cb_grid.specs.Parts.{part_shape}
use Rattle.cb_grid.specs.Blocks.{block_at, glued}
use Rattle.cb_grid.specs.Pieces.{piece_shape}
use Rattle.cb_plan_vectors.specs.Vectors.{glued_pieces}
use Rattle.cb_plan_slots.specs.Answers.{over_grid}
use Rattle.cb_plan_vectors.proofs.SpreadProducts.{parts_filled, pieces_filled, blocks_shaped, blocks_glued, pieces_shaped, pieces_glued}
use Rattle.cb_plan_vectors.proofs.collect.Goals as goal

pub drain-requires-clause-filled : goal.drain-requires-clause-filled
drain-requires-clause-filled g c = parts_filled g.S.Semiring.arithmetic c.args.grid.now.side c.requires.left.0 c.requires.left.1 c.args.stores.items c.requires.left.2.held

pub drain-requires-2-clause-filled : goal.drain-requires-2-clause-filled
drain-requires-2-clause-filled g c =
    pieces_filled g.S.Semiring.arithmetic c.args.grid.now.side c.requires.left.0 c.requires.left.1 c.args.stores.items c.requires.left.2.held
    c.drain.new.stores.items c.in_ok-blocks.ensures.table.rows c.in_ok-blocks.ensures.others

pub gather_result-requires-clause-shapes : goal.gather_result-requires-clause-shapes
gather_result-requires-clause-shapes g c i t l m =
    let q = c.args.grid.now.side in
    ap (λ (bs : List Sparse). (block_at bs (i * q + t)).shape) c.deref.ensures.value
    ∙ pieces_shaped g.S.Semiring.arithmetic q c.requires.left.0 c.requires.left.1 c.args.stores.items c.requires.left.2.held
    c.drain.new.stores.items c.in_ok-blocks.ensures.table.rows c.in_ok-blocks.ensures.others c.in_ok-pieces.pieces.items c.in_ok-pieces.ensures.blocks i t l m
    ∙ ap (λ (d : Extent). piece_shape q d i t) c.requires.left.2.product

pub from_blocks-requires-clause-shapes : goal.from_blocks-requires-clause-shapes
from_blocks-requires-clause-shapes g c i j l m =
    let q = c.args.grid.now.side in
    blocks_shaped g.S.Semiring.arithmetic q c.requires.left.0 c.requires.left.1 c.args.stores.items c.requires.left.2.held c.in_ok-blocks.blocks.items c.in_ok-blocks.ensures.blocks i j l m
    ∙ ap (λ (d : Extent). part_shape q d i j) c.requires.left.2.matrix

pub returns-clause-product : goal.returns-clause-product
returns-clause-product g c = λ a y has.
    let laws = g.met.S.Semiring.is_semiring in
    let s = g.S.Semiring.arithmetic in
    let q = c.args.grid.now.side in
    c.in_ok-product.ensures.glued
    ∙ ap (λ (d : Extent). glued_pieces s q d (λ i t. block_at c.deref.result.now (i * q + t))) (sym has.product)
    ∙ ap (λ (bs : List Sparse). glued_pieces s q y.shape (λ i t. block_at bs (i * q + t))) c.deref.ensures.value
    ∙ pieces_glued s q a y c.args.stores.items has.held c.drain.new.stores.items c.in_ok-blocks.ensures.table.rows c.in_ok-blocks.ensures.others c.in_ok-pieces.pieces.items c.in_ok-pieces.ensures.blocks laws

pub returns-clause-same : goal.returns-clause-same
returns-clause-same g c = λ a y has.
    let laws = g.met.S.Semiring.is_semiring in
    let s = g.S.Semiring.arithmetic in
    let q = c.args.grid.now.side in
    c.from_blocks.ensures
    ∙ ap (over_grid q) (ap (λ (d : Extent). glued s q d (λ i j. block_at c.in_ok-blocks.blocks.items (i * q + j))) (sym has.matrix)
    ∙ blocks_glued s q a y c.args.stores.items has.held c.in_ok-blocks.blocks.items c.in_ok-blocks.ensures.blocks laws)
