use Rattle.std.proofs.Common.{rules, ◌≡◌, ℕ, ◌+◌, ◌-◌, List, ◌++◌, length, take, ap, ◌∙◌, arith}
use Rattle.std.proofs.lemmas.List.{with_items_is}
use Rattle.cb_layout.specs.Segments.{shifted}
use Rattle.cb_market_pages.specs.Text.{lines_in}
use Rattle.cb_market_pages.proofs.SegmentRests.{length-shifted}
use Rattle.cb_market_pages.proofs.EntryRuns.{write_run}
use Rattle.cb_market_pages.proofs.text_pages.EntriesLeft.put_first.Goals as goal

pub loop-left-preserved : goal.loop-left-preserved
loop-left-preserved g c =
    let form = c.args.form in
    let r = c.in-Some.run' in
    let e = c.in-Some.ensures in
    let i = c.loop-left.invariant in
    let run = shifted r.top r.column r.rows.now r.values.now in
    let left = c.loop-left.left in
    let longer = c.lengthen.new.list in
    let buffer = c.put_run-end.new.buffer in
    let page = take c.loop-left.end c.loop-left.buffer.items in
    let many = length-shifted r.top r.column r.rows.now r.values.now e.lengths in
    let whole : length run + (left - length r.rows.now) ≡ left = omega (arith, many, e.limits.1) in
    let same = with_items_is longer buffer (search rules) in
    let before : take c.loop-left.end c.deref_mut.result.now ≡ page = ap (λ (bytes : List ℕ). take c.loop-left.end bytes) c.deref_mut.ensures.value ∙ c.lengthen.ensures.same c.loop-left.end i.begun in
    let lines : take c.put_run-end.result buffer ≡ page ++ lines_in form run =
    c.put_run-end.ensures.lines ∙ ap (λ (bytes : List ℕ). bytes ++ lines_in form run) before in
    let limit = c.put_run-end.ensures.limit in
    let few = e.limits.1 in
    let so_far = i.limit in
    record {
      lines = ap (λ (bytes : List ℕ). take c.put_run-end.result bytes ++ lines_in form (take (left - length r.rows.now) c.next_run.new.self)) same ∙ write_run form page _ run c.next_run.new.self c.loop-left.self left (left - length r.rows.now) e.some whole lines ∙ i.lines;
      limit = omega arith;
      begun = let enough = c.lengthen.ensures.enough in omega arith;
      longer = let more = c.lengthen.ensures.longer in let far = i.longer in omega arith;
      room = let more = c.lengthen.ensures.capacity in let far = i.room in omega arith;
    }
