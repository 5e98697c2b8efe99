use Rattle.std.proofs.Common.{refl, arith}
use Rattle.cb_market_pages.proofs.EntryRuns.{part_taken, length-share}
use Rattle.cb_market_pages.proofs.text_pages.TextPages.next_share.Goals as goal

pub returns-clause-text : goal.returns-clause-text
returns-clause-text g c =
    let t = c.self.inside in
    part_taken c.self.inside.form c.args.self.now _ _ t.entries c.fork-entries.result c.skip-count.new.self _ c.skip-count.result c.self.view_is refl c.fork-entries.ensures c.skip-count.ensures.rest c.skip-count.ensures.count

pub returns-clause-some : goal.returns-clause-some
returns-clause-some g c =
    length-share g.S.Semiring.arithmetic c.self.inside.form c.self.inside.has_head c.self.inside.shape c.self.inside.len c.fork-entries.result c.skip-count.result (search arith) (search arith)
