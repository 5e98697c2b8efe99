use Rattle.std.proofs.Common.{◌≡◌, ◌<◌, ap, ◌∙◌, arith}
use Rattle.cb_grid.specs.Parts.{part_length}
use Rattle.cb_grid.specs.Blocks.{part_with, place_in_part}
use Rattle.cb_grid.proofs.Parts.{place_below}
use Rattle.cb_plan_vectors.proofs.pieces.in_piece.Goals as goal

pub in_part-t-requires : goal.in_part-t-requires
in_part-t-requires c =
    let q = c.args.grid.now.side in
    let d = c.args.shape.rows in
    let within = c.in_part-j.ensures.within in
    let pos : 0 < q = omega arith in
    let height = c.rows.ensures.value in
    let below : place_in_part q d c.args.entry.row < part_length q d (part_with q d c.args.entry.row) = place_below q d pos c.args.entry.row c.requires.0 in
    let part : c.in_part-j.result.0 ≡ part_with q d c.args.entry.row = c.in_part-j.ensures.part ∙ ap (λ n. part_with q n c.args.entry.row) height in
    let place : c.in_part-j.result.1 ≡ place_in_part q d c.args.entry.row = c.in_part-j.ensures.place ∙ ap (λ n. place_in_part q n c.args.entry.row) height in
    let long : c.part_length.result ≡ part_length q d (part_with q d c.args.entry.row) = c.part_length.ensures.value ∙ (λ t. part_length q (c.rows-2.ensures.value t) (part t)) in
    rw (place, long) below
