use Rattle.std.proofs.Common.{◌≡◌, ◌+◌, ◌*◌, ◌<◌, length, ap, ◌∙◌, arith}
use Rattle.std.proofs.lemmas.List.{get_or_read}
use Rattle.cb_matrix.specs.Sparse.{Sparse}
use Rattle.cb_matrix.specs.Values.{empty_matrix}
use Rattle.cb_grid.specs.Blocks.{block_at}
use Rattle.cb_grid.proofs.Parts.{rank_below}
use Rattle.cb_layout.proofs.front.block_in.Goals as goal

pub bounds-blocks-from : goal.bounds-blocks-from
bounds-blocks-from g c =
    let q = c.args.grid.side in
    let rank : c.from.result ≡ c.args.row * q + c.args.column = c.from.ensures ∙ c.rank.ensures in
    let l = rank_below q c.args.row c.args.column c.requires.row c.requires.column in
    let k = c.requires.count in
    omega arith

pub returns : goal.returns
returns g c =
    let q = c.args.grid.side in
    let bs = c.args.blocks.now in
    let none : Sparse = empty_matrix (record { rows = 0; cols = 0 }) in
    let rank : c.from.result ≡ c.args.row * q + c.args.column = c.from.ensures ∙ c.rank.ensures in
    let below : c.from.result < length bs = let l = rank_below q c.args.row c.args.column c.requires.row c.requires.column in let k = c.requires.count in omega arith in
    get_or_read bs c.from.result c.index-blocks-from.result below c.index-blocks-from.is none ∙ ap (block_at bs) rank
