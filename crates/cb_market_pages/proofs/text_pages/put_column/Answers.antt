use Rattle.std.proofs.Common.{[], ◌++◌, get_or, ap, sym, refl, ◌∙◌, arith, append-nil}
use Rattle.cb_market_pages.specs.Text.{lines_in}
use Rattle.cb_market_pages.proofs.SegmentRests.{shifted_done}
use Rattle.cb_market_pages.proofs.EntryRuns.{one_line_more}
use Rattle.cb_market_pages.proofs.WrittenBytes.{same_line, first_line}
use Rattle.cb_market_pages.proofs.text_pages.put_column.Goals as goal

pub returns-then-not-has_room-clause-some : goal.returns-then-not-has_room-clause-some
returns-then-not-has_room-clause-some c =
    λ some. first_line c.loop-n.n c.loop-n.page c.args.page.now c.loop-n.invariant.1 c.requires.room (search arith)

pub loop-n-init : goal.loop-n-init
loop-n-init c =
    let page = c.args.page.now in
    let none = shifted_done c.args.top c.args.column [] [] refl in
    (sym (ap (λ es. page ++ lines_in c.args.form es) none ∙ append-nil page), λ _. refl)

pub loop-n-preserved : goal.loop-n-preserved
loop-n-preserved c =
    let rows = c.args.rows.now in
    let values = c.args.values.now in
    let n = c.loop-n.n in
    let own = same_line c.args.form _ c.args.top (get_or rows n 0) c.args.column (get_or values n 0) c.as_bytes-digits.result.now (search arith) (search arith) in (
      one_line_more c.args.form c.args.page.now c.loop-n.page _ c.args.top c.args.column rows values n c.requires.lengths c.loop-n-test.true c.loop-n.invariant.0
          (c.put_entry.ensures.line ∙ ap (λ l. c.loop-n.page ++ l) own),
      λ z. absurd (omega arith),
    )
