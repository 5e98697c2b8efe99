use Rattle.std.proofs.Common.{rules, ◌<◌, length, ◌≡◌, get_or}
use Rattle.cb_job_inputs.proofs.ReadPieces.{only_read}
use Rattle.cb_job_inputs.proofs.joining.only.Goals as goal

pub returns : goal.returns
returns g c =
    let o = c.take.result in
    let some : 0 < length c.args.places.now = search rules in
    let same : o ≡ get_or c.args.places.now 0 o = search rules in
    only_read g.S.Semiring.arithmetic c.args.reading.now c.args.pieces.now c.args.places.now c.requires.order o c.requires.few some same
