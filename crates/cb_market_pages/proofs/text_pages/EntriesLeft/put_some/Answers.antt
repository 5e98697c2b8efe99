use Rattle.std.proofs.Common.{take, refl, sym, ◌∙◌}
use Rattle.cb_layout.specs.Segments.{shifted}
use Rattle.cb_market_pages.proofs.EntryRuns.{first_run, append_run}
use Rattle.cb_market_pages.proofs.SegmentRests.{shorter_at}
use Rattle.cb_market_pages.proofs.text_pages.EntriesLeft.put_some.Goals as goal

pub returns-clause-lines : goal.returns-clause-lines
returns-clause-lines g c =
    let s = c.in-Some.segment in
    let r = c.rest_of-self-inside.ensures in
    let e = c.in-Some.ensures in
    let n = c.put_segment-done.result in
    let page = c.args.page.now in
    let all = first_run s.top s.column s.rows.now s.values.now s.top s.column _ _ (take n s.rows.now) (take n s.values.now) _ _ n c.begun.new.segments c.args.self.now e.lengths (refl, refl) refl refl r.place r.rows r.values (sym c.self.view_is ∙ e.some) in
    append_run c.args.form page _ (shifted s.top s.column (take n s.rows.now) (take n s.values.now)) _ c.args.self.now all c.put_segment-done.ensures.lines

pub returns-clause-some : goal.returns-clause-some
returns-clause-some g c =
    let s = c.in-Some.segment in
    let r = c.rest_of-self-inside.ensures in
    let e = c.in-Some.ensures in
    let p = c.put_segment-done.ensures in
    λ _. shorter_at s.top s.column s.rows.now s.values.now c.rest_of-self-inside.result.top c.rest_of-self-inside.result.column _ _ c.put_segment-done.result c.begun.new.segments c.args.self.now e.lengths r.place.0 r.place.1 r.rows r.values (p.limit) (p.some e.entries) (sym c.self.view_is ∙ e.some)
