use Rattle.std.proofs.Common.{◌≡◌, arith, length}
use Rattle.cb_layout.specs.Segments.{shifted}
use Rattle.cb_market_pages.proofs.SegmentRests.{shifted_done, next_first, nothing_left}
use Rattle.cb_market_pages.proofs.text_pages.begun.Goals as goal

pub returns-then-is_empty-clause-some : goal.returns-then-is_empty-clause-some
returns-then-is_empty-clause-some g c =
    let s = c.args.segment in
    let none : length s.rows.now ≡ 0 = search arith in
    next_first c.next_segment.result (λ x. shifted x.top x.column x.rows.now x.values.now) _ _ _ (shifted_done s.top s.column s.rows.now s.values.now none) c.next_segment.ensures.some

pub returns-then-is_empty-clause-none : goal.returns-then-is_empty-clause-none
returns-then-is_empty-clause-none g c =
    let s = c.args.segment in
    let none : length s.rows.now ≡ 0 = search arith in
    nothing_left c.next_segment.result _ _ _ (shifted_done s.top s.column s.rows.now s.values.now none) c.next_segment.ensures.none
