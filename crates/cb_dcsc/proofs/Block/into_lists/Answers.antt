use Rattle.std.proofs.Common.{◌≡◌, ap}
use Rattle.cb_matrix.specs.Sparse.{Sparse}
use Rattle.cb_dcsc.specs.Compressed.{all_entries}
use Rattle.cb_dcsc.proofs.Held.{columns_are, rows_are, values_are}
use Rattle.cb_dcsc.proofs.Block.into_lists.Goals as goal

pub returns-clause-columns : goal.returns-clause-columns
returns-clause-columns g c =
    let v = c.self.inside in
    let view : all_entries v.columns.items v.starts.items v.rows.items v.values.items ≡ c.args.self.entries = ap (λ (m : Sparse). m.entries) c.self.view_is in
    columns_are _ _ _ _ c.args.self.entries c.self.invariant.lists view

pub returns-clause-rows : goal.returns-clause-rows
returns-clause-rows g c =
    let v = c.self.inside in
    let view : all_entries v.columns.items v.starts.items v.rows.items v.values.items ≡ c.args.self.entries = ap (λ (m : Sparse). m.entries) c.self.view_is in
    rows_are _ _ _ _ c.args.self.entries c.self.invariant.lists view

pub returns-clause-values : goal.returns-clause-values
returns-clause-values g c =
    let v = c.self.inside in
    let view : all_entries v.columns.items v.starts.items v.rows.items v.values.items ≡ c.args.self.entries = ap (λ (m : Sparse). m.entries) c.self.view_is in
    values_are _ _ _ _ c.args.self.entries c.self.invariant.lists view
