use Rattle.std.proofs.Common.{rules, ◌≡◌, ◌<◌, ◌++◌, length}
use Rattle.cb_market.specs.Pieces.{IsPart}
use Rattle.cb_market.proofs.PartedTexts.{some_joined}
use Rattle.cb_job_inputs.specs.TextPieces.{in_a_row}
use Rattle.cb_job_inputs.proofs.CutTexts.{row_halves, whole_front}
use Rattle.cb_job_inputs.proofs.joining.+pieces.Goals as goal

pub join_all-returns : goal.join_all-returns
join_all-returns g t c =
    let s = g.S.Semiring.arithmetic in
    let reading = c.args.reading.now in
    let pieces = c.args.pieces.now in
    let a = c.split_at.result.0.now in
    let b = c.split_at.result.1.now in
    let both : a ++ b ≡ pieces = search rules in
    let some : 0 < length b = search rules in
    let front : IsPart s reading.header reading.size.shape reading.side (in_a_row a) c.in_ok-front.front = search rules in
    let back : IsPart s reading.header reading.size.shape reading.side (in_a_row b) c.in_ok-back.back = search rules in
    some_joined s reading.header reading.size.shape reading.side (in_a_row a) (in_a_row b) (in_a_row pieces) c.in_ok-front.front c.in_ok-back.back c.append.result (whole_front a b pieces both c.requires.ends some)
    (row_halves a b pieces both c.requires.ends) front back c.append.ensures
