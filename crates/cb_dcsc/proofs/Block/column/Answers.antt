use Rattle.std.proofs.Common.{length, sym, ap, ◌∙◌, arith, get_or}
use Rattle.cb_matrix.specs.Sparse.{Sparse}
use Rattle.cb_dcsc.specs.Columns.{in_column, rows_of, values_of}
use Rattle.cb_dcsc.proofs.Held.{columns_are, none_in, same_number, not_found}
use Rattle.cb_dcsc.proofs.Block.column.Goals as goal

pub nth_column-requires : goal.nth_column-requires
nth_column-requires g c =
    let b = rw c.deref.ensures.value at c.in-Ok.ensures.bound in
    let e = ap length (columns_are _ _ _ _ _ c.self.invariant.lists (ap (λ (m : Sparse). m.entries) c.self.view_is)) in
    omega arith

pub returns-in-Ok-clause-rows : goal.returns-in-Ok-clause-rows
returns-in-Ok-clause-rows g c =
    let found = rw c.deref.ensures.value at (c.in-Ok.ensures.ok 0) in
    c.nth_column.ensures.rows ∙ ap (λ j. rows_of (in_column j c.args.self.now.entries)) (ap (λ cs. get_or cs c.in-Ok.n 0) (sym (columns_are _ _ _ _ _ c.self.invariant.lists (ap (λ (m : Sparse). m.entries) c.self.view_is))) ∙ same_number _ _ found)

pub returns-in-Ok-clause-values : goal.returns-in-Ok-clause-values
returns-in-Ok-clause-values g c =
    let found = rw c.deref.ensures.value at (c.in-Ok.ensures.ok 0) in
    c.nth_column.ensures.values ∙ ap (λ j. values_of (in_column j c.args.self.now.entries)) (ap (λ cs. get_or cs c.in-Ok.n 0) (sym (columns_are _ _ _ _ _ c.self.invariant.lists (ap (λ (m : Sparse). m.entries) c.self.view_is))) ∙ same_number _ _ found)

pub returns-in-Err-clause-rows : goal.returns-in-Err-clause-rows
returns-in-Err-clause-rows g c =
    let v = c.self.inside in
    let are = c.self.invariant.lists in
    let view = ap (λ (m : Sparse). m.entries) c.self.view_is in
    let missed = rw c.deref.ensures.value at c.in-Err.ensures.position in
    ap rows_of (none_in _ _ _ _ _ are view c.args.column (not_found v.columns.items c.args.column _ are.ascending missed))

pub returns-in-Err-clause-values : goal.returns-in-Err-clause-values
returns-in-Err-clause-values g c =
    let v = c.self.inside in
    let are = c.self.invariant.lists in
    let view = ap (λ (m : Sparse). m.entries) c.self.view_is in
    let missed = rw c.deref.ensures.value at c.in-Err.ensures.position in
    ap values_of (none_in _ _ _ _ _ are view c.args.column (not_found v.columns.items c.args.column _ are.ascending missed))
