use Rattle.std.proofs.Common.{arith, ◌≡◌, ◌<◌, ◌+◌, ◌-◌, ◌++◌, length, length-append, map, get_or, drop, take, sym, ap, ◌∙◌, subst, rules, vec_len}
use Rattle.std.proofs.lemmas.List.{get_or_default}
use Rattle.cb_matrix.specs.Sparse.{IsMatrix, Sparse}
use Rattle.cb_dcsc.specs.Compressed.{IsBlock, block_of}
use Rattle.cb_dcsc.specs.Columns.{with_entries}
use Rattle.cb_dcsc.proofs.Held.{has_columns, start_within}
use Rattle.cb_dcsc.proofs.LaterColumns.{appended, one_shared, shared_or_not}
use Rattle.cb_dcsc.proofs.Block.append_some.Given as given
use Rattle.cb_dcsc.proofs.Block.append_some.Goals.{After-append_starts}
use Rattle.cb_dcsc.proofs.Block.append_some.Goals as goal

pub index-requires : goal.index-requires
index-requires g c =
    let v = c.other.inside in
    let some = has_columns v.columns.items v.starts.items v.rows.items v.values.items c.args.other.now.entries c.other.invariant.lists (ap (λ (m : Sparse). m.entries) c.other.view_is) c.requires.other_some in
    let long = v.columns.ok.0 in
    omega (arith, some, long)

pub rest-requires : goal.rest-requires
rest-requires g c =
    let v = c.other.inside in
    let some = has_columns v.columns.items v.starts.items v.rows.items v.values.items c.args.other.now.entries c.other.invariant.lists (ap (λ (m : Sparse). m.entries) c.other.view_is) c.requires.other_some in
    let low = one_shared c.ends_with.result c.from-shared.result c.from-shared.ensures in
    let same = ap length c.deref-2.ensures.value in
    omega (arith, some, low, same)

pub append_starts-requires-clause-some : goal.append_starts-requires-clause-some
append_starts-requires-clause-some g c =
    let v = c.other.inside in
    let some = has_columns v.columns.items v.starts.items v.rows.items v.values.items c.args.other.now.entries c.other.invariant.lists (ap (λ (m : Sparse). m.entries) c.other.view_is) c.requires.other_some in
    let one = c.other.invariant.lists.one_more_start some in
    let same = ap length c.deref-3.ensures.value in
    omega (arith, one, same)

pub append_starts-requires-clause-ends : goal.append_starts-requires-clause-ends
append_starts-requires-clause-ends g c k d l =
    let u = c.self.inside in
    let v = c.other.inside in
    let some = has_columns v.columns.items v.starts.items v.rows.items v.values.items c.args.other.now.entries c.other.invariant.lists (ap (λ (m : Sparse). m.entries) c.other.view_is) c.requires.other_some in
    let one = c.other.invariant.lists.one_more_start some in
    let starts = c.deref-3.ensures.value in
    let in_starts : k < length v.starts.items = subst (λ xs. k < length xs) starts l in
    let at : get_or c.deref-3.result.now k d ≡ get_or v.starts.items k 0 = ap (λ xs. get_or xs k d) starts ∙ get_or_default v.starts.items k d 0 in_starts in
    let high = start_within v.columns.items v.starts.items v.rows.items v.values.items c.other.invariant.lists k (omega (arith, in_starts, one)) in
    let count = ap length c.in_ok-append_entries.ensures.rows ∙ length-append u.rows.items v.rows.items in
    let small : vec_len c.append_entries.new.rows < 18446744073709551616 = search rules in
    let all = c.append_entries.new.rows.ok.0 in
    let len = c.len-len.ensures in
    let mine = u.rows.ok.0 in
    omega (arith, at, high, count, small, all, len, mine)

-- the block with the entries of the other
with_them : (g : given.Over) (c : After-append_starts g) →
    let shape = c.self.inside.shape in
    let columns = c.extend_reserved.new.list.items in
    let starts = c.append_starts.new.starts.items in
    let rows = c.append_entries.new.rows.items in
    let values = c.append_entries.new.values.items in
    IsBlock g.S.Semiring.arithmetic shape columns starts rows values × (block_of shape columns starts rows values ≡ with_entries c.args.self.now c.args.other.now.entries)
with_them g c =
    let s = g.S.Semiring.arithmetic in
    let u = c.self.inside in
    let v = c.other.inside in
    let m = c.args.self.now in
    let view = ap (λ (x : Sparse). x.entries) c.other.view_is in
    let some = has_columns u.columns.items u.starts.items u.rows.items u.values.items m.entries c.self.invariant.lists (ap (λ (x : Sparse). x.entries) c.self.view_is) c.requires.some in
    let more = has_columns v.columns.items v.starts.items v.rows.items v.values.items c.args.other.now.entries c.other.invariant.lists view c.requires.other_some in
    let matrix = subst (λ xs. IsMatrix s (with_entries m xs)) (sym view) c.requires.matrix in
    let first : c.index.result.now ≡ get_or v.columns.items 0 0 = c.index.ensures ∙ get_or_default v.columns.items 0 c.index.result.now 0 more in
    let shared = shared_or_not c.ends_with.result _ c.from-shared.result c.from-shared.ensures (rw (c.deref.ensures.value, first) at c.ends_with.ensures) in
    let room = c.in_ok-reserve_both.ensures in
    let columns : c.rest.result.now ≡ drop c.from-shared.result v.columns.items = c.rest.ensures ∙ ap (drop c.from-shared.result) c.deref-2.ensures.value in
    let starts = c.deref-3.ensures.value in
    let len : c.len-len.result ≡ length u.rows.items = search rules in
    let all = appended s u.shape u.columns.items u.starts.items u.rows.items u.values.items c.self.invariant m c.self.view_is v.columns.items v.starts.items v.rows.items v.values.items c.other.invariant.lists some more matrix c.from-shared.result shared _ _ _ _
    (c.extend_reserved.ensures ∙ (λ i. room.left i ++ columns i))
    (c.append_starts.ensures ∙ (λ i. take (length (room.right i) - c.from-shared.result) (room.right i) ++ map (λ e. e + len i) (drop 1 (starts i))))
    c.in_ok-append_entries.ensures.rows c.in_ok-append_entries.ensures.values in
    (all.0, all.1 ∙ ap (with_entries m) view)

pub invariant_of-self-2 : goal.invariant_of-self-2
invariant_of-self-2 g c = (with_them g (goal.at.invariant_of-self-2 g c).After-append_starts).0

pub returns-clause-ok : goal.returns-clause-ok
returns-clause-ok g c = (with_them g (goal.at.returns-clause-ok g c).After-append_starts).1
