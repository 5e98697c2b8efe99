use Rattle.std.proofs.Common.{◌<◌, ◌≤◌, ◌+◌, ◌-◌, ◌^◌, ◌∙◌, take, drop, ap, arith}
use Rattle.std.proofs.lemmas.List.Elements.{All-map}
use Rattle.cb_dcsc.specs.Columns.{with_entries}
use Rattle.cb_dcsc.specs.Compressed.{with_column}
use Rattle.cb_dcsc.proofs.Ranges.{range_all, range_ascends, moved_ascend}
use Rattle.cb_reshape.proofs.PartOfColumn.{column_moved, taken_all}
use Rattle.cb_reshape.proofs.parts.append_column.Goals as goal

pub fill_moved-requires-clause-above : goal.fill_moved-requires-clause-above
fill_moved-requires-clause-above g c =
    let r = c.range_within-start.ensures in
    let within = r.within in
    range_all (λ i. c.args.part.rows.0 ≤ i) c.args.rows.now c.range_within-start.result.0 c.range_within-start.result.1 r.order r.within (λ k a b. r.first k a (omega arith))

pub fill_moved-requires-clause-limit : goal.fill_moved-requires-clause-limit
fill_moved-requires-clause-limit g c =
    let r = c.range_within-start.ensures in
    let within = r.within in
    let fits = c.requires.fits in
    let last = fits.last_row in
    let limit = fits.limits.0 in
    range_all (λ i. i - c.args.part.rows.0 + c.args.part.corner.0 < 2 ^ 32) c.args.rows.now c.range_within-start.result.0 c.range_within-start.result.1 r.order r.within (λ k a b. (let x = r.first k a (omega arith) in let y = r.last k b in omega arith))

pub push_column-requires-clause-ascending : goal.push_column-requires-clause-ascending
push_column-requires-clause-ascending g c =
    let r = c.range_within-start.ensures in
    let within = r.within in
    let above = range_all (λ i. c.args.part.rows.0 ≤ i) c.args.rows.now c.range_within-start.result.0 c.range_within-start.result.1 r.order r.within (λ k a b. r.first k a (omega arith)) in
    rw (c.deref.ensures.value, c.in_ok-fill_moved.ensures) (moved_ascend _ c.args.part.rows.0 c.args.part.corner.0 above (range_ascends c.args.rows.now c.range_within-start.result.0 c.range_within-start.result.1 r.order r.within c.requires.order))

pub push_column-requires-clause-rows : goal.push_column-requires-clause-rows
push_column-requires-clause-rows g c =
    let r = c.range_within-start.ensures in
    let within = r.within in
    let last = c.requires.fits.last_row in
    let moved = range_all (λ i. i - c.args.part.rows.0 + c.args.part.corner.0 < c.args.out.now.shape.rows) c.args.rows.now c.range_within-start.result.0 c.range_within-start.result.1 r.order r.within (λ k a b. (let x = r.first k a (omega arith) in let y = r.last k b in omega arith)) in
    rw (c.deref.ensures.value, c.in_ok-fill_moved.ensures) (All-map (λ i. i < c.args.out.now.shape.rows) (λ i. i - c.args.part.rows.0 + c.args.part.corner.0) _ moved)

pub returns-clause-entries : goal.returns-clause-entries
returns-clause-entries g c =
    let r = c.range_within-start.ensures in
    let order = r.order in
    let start = c.range_within-start.result.0 in
    let end = c.range_within-start.result.1 in
    let part = c.args.part in
    let column = c.args.column in
    let rows = c.args.rows.now in
    let values = c.args.values.now in
    c.in_ok-push_column.ensures.ok
    ∙ ap (λ is. with_column c.args.out.now (column - part.cols.0 + part.corner.1) is (take (end - start) (drop start values))) (c.deref.ensures.value ∙ c.in_ok-fill_moved.ensures)
    ∙ ap (with_entries c.args.out.now) (column_moved part column rows values c.requires.lengths start (end - start) end (omega arith) r.within r.before r.first r.last c.requires.column_start c.requires.column_end ∙ taken_all part column rows values c.requires.lengths end r.after)
