use Rattle.std.proofs.Common.{◌≡◌, ◌<◌, length, slice_index_or, subst, arith}
use Rattle.std.proofs.lemmas.List.{get_or_default}
use Rattle.cb_matrix.specs.Sparse.{Sparse, IsMatrix}
use Rattle.cb_matrix.specs.Values.{empty_matrix}
use Rattle.cb_dcsc.specs.Columns.{with_entries}
use Rattle.cb_grid.specs.Blocks.{block_at}
use Rattle.cb_layout.proofs.distributed.append_first.Goals as goal

pub append-requires-clause-matrix : goal.append-requires-clause-matrix
append-requires-clause-matrix g c =
    let none : Sparse = empty_matrix (record { rows = 0; cols = 0 }) in
    let xs = c.args.blocks.now in
    let ys = c.args.others.now in
    let count = c.requires.fits.count in
    let here : 0 < length xs = omega (arith, c.requires.one) in
    let there : 0 < length ys = omega (arith, c.requires.one) in
    let block : block_at xs 0 ≡ slice_index_or xs 0 c.index-blocks-0.result = get_or_default xs 0 none c.index-blocks-0.result here in
    let other : block_at ys 0 ≡ slice_index_or ys 0 c.index-others-0.result = get_or_default ys 0 none c.index-others-0.result there in
    subst (λ (m : Sparse). IsMatrix g.S.Semiring.arithmetic m) (λ t. with_entries (block t) (other t).entries) (c.requires.fits.matrices 0 there)
