use Rattle.std.proofs.Common.{ap, ◌∙◌}
use Rattle.cb_market.specs.Gathered.{Listed}
use Rattle.cb_market.specs.Pieces.{Part}
use Rattle.cb_market.proofs.PartedTexts.{part_read, part_sorted}
use Rattle.cb_market.proofs.pieces.read_piece.Goals as goal

pub returns : goal.returns
returns g c =
    let s = g.S.Semiring.arithmetic in
    let e = c.in-Some.ensures in
    let es = c.read_lines.new.entries in
    let p : Part = record { side = es.side; shape = es.shape; lines = c.in-Some.lines; entries = es.entries } in
    let none = ap (λ (l : Listed). l.entries) c.in-Ok.ensures in
    let side = c.read_lines.ensures.side ∙ ap (λ (l : Listed). l.side) c.in-Ok.ensures in
    let part = part_read s c.args.header c.args.size.shape c.args.grid.side c.args.piece.now _ p side e.shape e.faultless e.count none e.given in
    part_sorted s c.args.header c.args.size.shape c.args.grid.side c.args.piece.now p c.sorted.result part c.sorted.ensures.places c.sorted.ensures.rest
