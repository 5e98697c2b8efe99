use Rattle.std.proofs.Common.{◌<◌, ◌+◌, ◌-◌, length, get_or, arith}
use Rattle.std.proofs.lemmas.List.{get_or_default}
use Rattle.std.proofs.lemmas.List.Edits.{map_over_more}
use Rattle.cb_dcsc.proofs.column_ranges.move_numbers.Goals as goal

pub loop-number-preserved : goal.loop-number-preserved
loop-number-preserved c =
    let i = c.loop-number.number-index in
    let now = c.loop-number.numbers in
    let test = c.loop-number-test.true in
    let long = c.loop-number.auto.numbers in
    let here : i < length now = omega arith in
    map_over_more (λ n. n - c.args.from + c.args.to) c.args.numbers.now now i (get_or now i 0) (omega arith) c.loop-number.invariant (get_or_default now i 0 (get_or now i 0) here)
