use Rattle.std.proofs.Common.{◌≡◌, ap, ◌∙◌, arith}
use Rattle.cb_matrix.specs.Sparse.{Sparse}
use Rattle.cb_dcsc.specs.Compressed.{all_entries}
use Rattle.cb_dcsc.proofs.ColumnEntries.{next_column}
use Rattle.cb_dcsc.proofs.Held.{all_columns, no_pieces}
use Rattle.cb_dcsc.proofs.Block.entries.Goals as goal

pub loop-n-init : goal.loop-n-init
loop-n-init g c = c.in_ok-reserve.ensures.items ∙ c.new-entries.ensures.items ∙ no_pieces _

pub loop-n-preserved : goal.loop-n-preserved
loop-n-preserved g c =
    next_column c.loop-n.n _ c.args.self.now.entries _ _ _ _ c.column_number.ensures c.nth_column.ensures.rows c.nth_column.ensures.values c.loop-n.invariant c.in_ok-append_column.ensures

pub returns : goal.returns
returns g c =
    let v = c.self.inside in
    let es = c.args.self.now.entries in
    let are = c.self.invariant.lists in
    let view : all_entries v.columns.items v.starts.items v.rows.items v.values.items ≡ es = ap (λ (m : Sparse). m.entries) c.self.view_is in
    let count = c.columns-n-end.ensures in
    let t = c.loop-n-test.false in
    let u = c.loop-n.auto.n-end in
    all_columns _ _ _ _ es are view c.loop-n.n _ (omega arith) c.loop-n.invariant
