use Rattle.std.proofs.Common.{◌<◌, ◌+◌, ◌-◌, length, get_or, arith}
use Rattle.std.proofs.lemmas.List.{get_or_default}
use Rattle.std.proofs.lemmas.List.Edits.{map_over_more}
use Rattle.cb_dcsc.proofs.column_ranges.move_starts.Goals as goal

pub loop-start-preserved : goal.loop-start-preserved
loop-start-preserved c =
    let i = c.loop-start.start-index in
    let now = c.loop-start.starts in
    let test = c.loop-start-test.true in
    let long = c.loop-start.auto.starts in
    let here : i < length now = omega arith in
    map_over_more (λ n. n - c.args.from + c.args.to) c.args.starts.now now i (get_or now i 0) (omega arith) c.loop-start.invariant (get_or_default now i 0 (get_or now i 0) here)
