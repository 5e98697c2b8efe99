use Rattle.std.proofs.Common.{ap, get_or, sym, ◌∙◌}
use Rattle.cb_dcsc.specs.Columns.{in_column}
use Rattle.cb_matrix.specs.Sparse.{Extent}
use Rattle.cb_product.proofs.ColumnStarts.{starts_none, starts_more, starts_all}
use Rattle.cb_product.proofs.column_index.column_starts.Goals as goal

pub loop-n-init : goal.loop-n-init
loop-n-init g c =
    starts_none c.args.block.now c.column_numbers-columns.result.now c.reserve.new.self.items (c.in_ok-reserve.ensures.items ∙ c.new-starts.ensures.items)

pub loop-n-preserved : goal.loop-n-preserved
loop-n-preserved g c =
    let m = c.args.block.now in
    let columns = c.column_numbers-columns.ensures in
    let range = c.nth_range-start.ensures in
    let its_column = ap (λ cs. in_column (get_or cs c.loop-n.n 0) m.entries) (sym columns.numbers) in
    starts_more m c.shape.ensures.matrix.ascending _ columns.ascending columns.inside columns.all c.loop-n.n c.nth_range-start.result.0 c.nth_range-start.result.1 _ _ _ c.loop-n.invariant c.loop-n-test.true
    range.some range.within (range.entries ∙ its_column) c.loop-n.starts.ok.0 c.in_ok-resize.ensures.items

pub returns : goal.returns
returns g c =
    let columns = c.column_numbers-columns.ensures in
    let cols = c.cols-cols.ensures.value ∙ ap (λ (e : Extent). e.cols) c.shape.ensures.shape in
    starts_all c.args.block.now c.shape.ensures.matrix.ascending _ columns.ascending columns.inside columns.all c.loop-n.n _ _ _ c.loop-n.invariant c.loop-n-test.false c.loop-n.starts.ok.0 (rw (← cols, ← c.len.ensures) c.in_ok-resize-2.ensures.items)
