use Rattle.std.proofs.Common.{sym, ◌∙◌}
use Rattle.cb_market_pages.proofs.EntryRuns.{first_run}
use Rattle.cb_market_pages.proofs.text_pages.EntriesLeft.next_run.Goals as goal

pub returns-clause-some : goal.returns-clause-some
returns-clause-some g c =
    let s = c.in-Some.segment in
    let e = c.in-Some.ensures in
    let f = c.first_of.ensures in
    let r = c.rest_of-self-inside.ensures in
    first_run s.top s.column s.rows.now s.values.now _ _ _ _ _ _ _ _ c.min-count.result c.begun.new.segments c.args.self.now e.lengths f.place f.rows f.values r.place r.rows r.values (sym c.self.view_is ∙ e.some)
