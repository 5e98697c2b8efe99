use Rattle.std.proofs.Common.{ap, arith}
use Rattle.cb_matrix.specs.Sparse.{Sparse}
use Rattle.std.proofs.lemmas.List.{get_or_read}
use Rattle.cb_dcsc.proofs.Held.{some_start, some_column, entry_is, starts_ascend, start_at, count_is}
use Rattle.cb_dcsc.proofs.Block.entry_at.Goals as goal

pub part_of-n-requires : goal.part_of-n-requires
part_of-n-requires g c =
    let are = c.self.invariant.lists in
    let some = some_start _ _ _ _ _ are (ap (λ (m : Sparse). m.entries) c.self.view_is) c.args.index c.requires in
    rw c.deref.ensures.value (record { some = some.0; first = some.1; ascending = starts_ascend _ _ _ _ are })

pub index-requires : goal.index-requires
index-requires g c =
    let v = c.self.inside in
    let k = count_is _ _ _ _ _ c.self.invariant.lists (ap (λ (m : Sparse). m.entries) c.self.view_is) in
    rw v.rows.ok.0 (omega arith)

pub index-requires-2 : goal.index-requires-2
index-requires-2 g c =
    let v = c.self.inside in
    let p = rw c.deref.ensures.value at c.part_of-n.ensures in
    rw v.columns.ok.0 (some_column _ _ _ _ _ c.self.invariant.lists (ap (λ (m : Sparse). m.entries) c.self.view_is) c.part_of-n.result c.args.index c.requires p.within p.here)

pub index-requires-3 : goal.index-requires-3
index-requires-3 g c =
    let v = c.self.inside in
    let are = c.self.invariant.lists in
    let view = ap (λ (m : Sparse). m.entries) c.self.view_is in
    let k = count_is _ _ _ _ _ are view in
    let same = are.same_length in
    rw v.values.ok.0 (omega arith)

pub returns : goal.returns
returns g c =
    let v = c.self.inside in
    let are = c.self.invariant.lists in
    let view = ap (λ (m : Sparse). m.entries) c.self.view_is in
    let p = rw c.deref.ensures.value at c.part_of-n.ensures in
    let n = c.part_of-n.result in
    let l = some_column _ _ _ _ _ are view n c.args.index c.requires p.within p.here in
    let k = count_is _ _ _ _ _ are view in
    let same = are.same_length in
    entry_is _ _ _ _ _ are view n c.args.index _ _ _ _ l c.requires p.here (p.next (start_at _ _ _ _ are n l))
    (get_or_read v.rows.items c.args.index _ (omega arith) c.index.ensures 0)
    (get_or_read v.columns.items n _ l c.index-2.ensures 0)
    (get_or_read v.values.items c.args.index _ (omega arith) c.index-3.ensures 0)
