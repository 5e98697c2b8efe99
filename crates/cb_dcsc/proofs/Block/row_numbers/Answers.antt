use Rattle.std.proofs.Common.{◌≡◌, ap, ◌∙◌}
use Rattle.cb_matrix.specs.Sparse.{Sparse}
use Rattle.cb_dcsc.specs.Compressed.{all_entries}
use Rattle.cb_dcsc.proofs.Held.{rows_are}
use Rattle.cb_dcsc.proofs.Block.row_numbers.Goals as goal

pub returns : goal.returns
returns g c =
    let v = c.self.inside in
    let es = c.args.self.now.entries in
    let are = c.self.invariant.lists in
    let view : all_entries v.columns.items v.starts.items v.rows.items v.values.items ≡ es = ap (λ (m : Sparse). m.entries) c.self.view_is in
    c.deref.ensures.value ∙ rows_are _ _ _ _ es are view
