use Rattle.std.proofs.Common.{◌≡◌, ap, ◌∙◌, get_or}
use Rattle.cb_matrix.specs.Sparse.{Sparse}
use Rattle.cb_dcsc.specs.Compressed.{all_entries}
use Rattle.std.proofs.lemmas.List.{get_or_read}
use Rattle.cb_dcsc.proofs.Held.{columns_are, is_nth}
use Rattle.cb_dcsc.proofs.Block.column_number.Goals as goal

pub index-requires : goal.index-requires
index-requires g c =
    let v = c.self.inside in
    let es = c.args.self.now.entries in
    let are = c.self.invariant.lists in
    let view : all_entries v.columns.items v.starts.items v.rows.items v.values.items ≡ es = ap (λ (m : Sparse). m.entries) c.self.view_is in
    rw v.columns.ok.0 (is_nth _ _ _ _ es are view c.args.n c.requires)

pub returns : goal.returns
returns g c =
    let v = c.self.inside in
    let es = c.args.self.now.entries in
    let are = c.self.invariant.lists in
    let view : all_entries v.columns.items v.starts.items v.rows.items v.values.items ≡ es = ap (λ (m : Sparse). m.entries) c.self.view_is in
    let n = c.args.n in
    get_or_read _ n _ (is_nth _ _ _ _ es are view n c.requires) c.index.ensures 0 ∙ ap (λ cs. get_or cs n 0) (columns_are _ _ _ _ es are view)
