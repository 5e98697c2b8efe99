use Rattle.cb_job_inputs.proofs.ReadPieces.{some_side}
use Rattle.cb_job_inputs.proofs.reading.read_in_pieces.Goals as goal

pub returns-clause-side : goal.returns-clause-side
returns-clause-side g c =
    let cut = c.in-Some.cut in
    some_side g.S.Semiring.arithmetic c.args.text.now c.args.grid.now.side cut.reading cut.pieces.items c.matrix_of.result c.in-Some.ensures c.matrix_of.ensures
