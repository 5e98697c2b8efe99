use Rattle.std.specs.Prelude.{slice_range}
use Rattle.std.proofs.Common.{ap, ◌∙◌, arith, get_or}
use Rattle.cb_matrix.specs.Sparse.{Sparse}
use Rattle.cb_dcsc.specs.Columns.{in_column}
use Rattle.cb_dcsc.proofs.Held.{starts_for, is_nth, nth_range, count_is, columns_are}
use Rattle.cb_dcsc.proofs.Block.nth_range.Goals as goal

pub bounds-requires : goal.bounds-requires
bounds-requires g c =
    rw c.deref.ensures.value (starts_for _ _ _ _ _ c.self.invariant.lists (ap (λ (m : Sparse). m.entries) c.self.view_is) c.args.n c.requires).0

pub returns-clause-some : goal.returns-clause-some
returns-clause-some g c =
    let are = c.self.invariant.lists in
    let view = ap (λ (m : Sparse). m.entries) c.self.view_is in
    let r = are.rising c.args.n (is_nth _ _ _ _ _ are view c.args.n c.requires) in
    let a = rw c.deref.ensures.value at c.bounds.ensures.start in
    let b = rw c.deref.ensures.value at c.bounds.ensures.end in
    omega arith

pub returns-clause-within : goal.returns-clause-within
returns-clause-within g c =
    let are = c.self.invariant.lists in
    let view = ap (λ (m : Sparse). m.entries) c.self.view_is in
    let s = starts_for _ _ _ _ _ are view c.args.n c.requires in
    let w = s.2 in
    let k = count_is _ _ _ _ _ are view in
    let b = rw c.deref.ensures.value at c.bounds.ensures.end in
    omega arith

pub returns-clause-entries : goal.returns-clause-entries
returns-clause-entries g c =
    let are = c.self.invariant.lists in
    let view = ap (λ (m : Sparse). m.entries) c.self.view_is in
    let n = c.args.n in
    let a = rw c.deref.ensures.value at c.bounds.ensures.start in
    let b = rw c.deref.ensures.value at c.bounds.ensures.end in
    (λ t. slice_range c.args.self.now.entries (a t) (b t)) ∙ nth_range _ _ _ _ _ are view n (is_nth _ _ _ _ _ are view n c.requires) ∙ ap (λ cs. in_column (get_or cs n 0) c.args.self.now.entries) (columns_are _ _ _ _ _ are view)
