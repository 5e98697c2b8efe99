use Rattle.std.proofs.Common.{length, get_or, sym, ap, ◌∙◌, arith}
use Rattle.cb_matrix.specs.Sparse.{Sparse}
use Rattle.cb_dcsc.specs.Columns.{in_column}
use Rattle.cb_dcsc.proofs.Held.{columns_are, none_in, same_number, not_found}
use Rattle.cb_dcsc.proofs.Block.range.Goals as goal

pub nth_range-requires : goal.nth_range-requires
nth_range-requires g c =
    let b = rw c.deref.ensures.value at c.in-Ok.ensures.bound in
    let e = ap length (columns_are _ _ _ _ _ c.self.invariant.lists (ap (λ (m : Sparse). m.entries) c.self.view_is)) in
    omega arith

pub returns-in-Ok-clause-entries : goal.returns-in-Ok-clause-entries
returns-in-Ok-clause-entries g c =
    let found = rw c.deref.ensures.value at (c.in-Ok.ensures.ok 0) in
    c.nth_range.ensures.entries ∙ ap (λ j. in_column j c.args.self.now.entries) (ap (λ cs. get_or cs c.in-Ok.n 0) (sym (columns_are _ _ _ _ _ c.self.invariant.lists (ap (λ (m : Sparse). m.entries) c.self.view_is))) ∙ same_number _ _ found)

pub returns-in-Err-clause-entries : goal.returns-in-Err-clause-entries
returns-in-Err-clause-entries g c =
    let v = c.self.inside in
    let are = c.self.invariant.lists in
    let view = ap (λ (m : Sparse). m.entries) c.self.view_is in
    let missed = rw c.deref.ensures.value at c.in-Err.ensures.position in
    none_in _ _ _ _ _ are view c.args.column (not_found v.columns.items c.args.column _ are.ascending missed)
