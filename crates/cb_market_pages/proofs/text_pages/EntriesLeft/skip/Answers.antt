use Rattle.std.proofs.Common.{◌≡◌, ◌+◌, ◌-◌, length, ◌∙◌, arith}
use Rattle.cb_layout.specs.Segments.{shifted}
use Rattle.cb_market_pages.proofs.SegmentRests.{length-shifted}
use Rattle.cb_market_pages.proofs.EntryRuns.{skip_run, length_run}
use Rattle.cb_market_pages.proofs.text_pages.EntriesLeft.skip.Goals as goal

pub loop-left-preserved : goal.loop-left-preserved
loop-left-preserved g c =
    let r = c.in-Some.run' in
    let e = c.in-Some.ensures in
    let i = c.loop-left.invariant in
    let run = shifted r.top r.column r.rows.now r.values.now in
    let left = c.loop-left.left in
    let more = c.next_run.new.self in
    let many = length-shifted r.top r.column r.rows.now r.values.now e.lengths in
    let whole : length run + (left - length r.rows.now) ≡ left = omega (arith, many, e.limits.1) in
    let count = length_run run more c.loop-left.self e.some in
    (skip_run run more c.loop-left.self left (left - length r.rows.now) e.some whole ∙ i.0, omega (arith, many, e.limits.1, count, i.1), omega (arith, i.2))
