use Rattle.std.proofs.Common.{◌≡◌, ℕ, ◌+◌, ◌-◌, ◌<◌, ◌≤◌, ◌^◌, ◌++◌, length, map, get_or, sym, ap, subst, ◌∙◌, arith, rules}
use Rattle.std.specs.Prelude.{All, slice_range, vec_capacity}
use Rattle.std.proofs.lemmas.List.Elements.{All-get_or}
use Rattle.cb_matrix.specs.Sparse.{Sparse, IsMatrix}
use Rattle.cb_dcsc.specs.Compressed.{IsBlock, block_of, opened}
use Rattle.cb_dcsc.specs.Columns.{with_entries, moved_columns}
use Rattle.cb_dcsc.proofs.ColumnRange.{columns_appended, no_columns, starts_rise}
use Rattle.cb_dcsc.proofs.Held.{rows_are, start_within}
use Rattle.cb_dcsc.proofs.Lookup.{all_rows_inside}
use Rattle.cb_dcsc.proofs.Ranges.{range_all}
use Rattle.cb_dcsc.proofs.Block.append_columns.Given as given
use Rattle.cb_dcsc.proofs.Block.append_columns.Goals.{After-extend_reserved}
use Rattle.cb_dcsc.proofs.Block.append_columns.Goals as goal

pub returns-then-end-first-clause-ok : goal.returns-then-end-first-clause-ok
returns-then-end-first-clause-ok g c =
    let v = c.other.inside in
    let first = c.first_from-first.ensures in
    let end = c.first_from-end.ensures in
    no_columns g.S.Semiring.arithmetic v.shape v.columns.items v.starts.items v.rows.items v.values.items c.other.invariant c.args.self.now c.args.other.now c.other.view_is c.args.cols c.args.corner c.first_from-first.result c.first_from-end.result c.if-end-first.true
    (subst (λ xs. c.first_from-first.result ≤ length xs) c.deref.ensures.value first.within)
    (subst (λ xs. (k : ℕ) → k < c.first_from-first.result → get_or xs k 0 < c.args.cols.0) c.deref.ensures.value first.below)
    (subst (λ xs. (k : ℕ) → c.first_from-end.result ≤ k → k < length xs → c.args.cols.1 ≤ get_or xs k 0) c.deref-2.ensures.value end.from)

pub returns-then-end-first-clause-matrix : goal.returns-then-end-first-clause-matrix
returns-then-end-first-clause-matrix g c = subst (IsMatrix g.S.Semiring.arithmetic) c.self.view_is c.self.invariant.matrix

pub overflow_sub-entries : goal.overflow_sub-entries
overflow_sub-entries g c =
    let v = c.other.inside in
    let within = subst (λ xs. c.first_from-end.result ≤ length xs) c.deref-2.ensures.value c.first_from-end.ensures.within in
    let less = c.if-end-first.false in
    let first = c.starts_at-start.ensures.first ∙ ap (λ xs. get_or xs c.first_from-first.result 0) c.deref-3.ensures.value in
    let second = c.starts_at-start.ensures.second ∙ ap (λ xs. get_or xs c.first_from-end.result 0) c.deref-3.ensures.value in
    let rise = starts_rise v.columns.items v.starts.items v.rows.items v.values.items c.other.invariant.lists c.first_from-first.result c.first_from-end.result (omega arith) within in
    omega (arith, first, second, rise)

pub extend_moved-requires-clause-above : goal.extend_moved-requires-clause-above
extend_moved-requires-clause-above g c =
    let ct = c.other.inside.columns.items in
    let a = c.first_from-first.result in
    let b = c.first_from-end.result in
    let within = subst (λ xs. b ≤ length xs) c.deref-2.ensures.value c.first_from-end.ensures.within in
    let from = subst (λ xs. (k : ℕ) → a ≤ k → k < length xs → c.args.cols.0 ≤ get_or xs k 0) c.deref.ensures.value c.first_from-first.ensures.from in
    let less = c.if-end-first.false in
    subst (All (λ n. c.args.cols.0 ≤ n)) (sym (c.between.ensures ∙ ap (λ xs. slice_range xs a b) c.deref-4.ensures.value))
    (range_all (λ n. c.args.cols.0 ≤ n) ct a b (omega arith) within (λ k l m. from k l (omega (arith, within))))

pub extend_moved-requires-clause-limit : goal.extend_moved-requires-clause-limit
extend_moved-requires-clause-limit g c =
    let ct = c.other.inside.columns.items in
    let a = c.first_from-first.result in
    let b = c.first_from-end.result in
    let within = subst (λ xs. b ≤ length xs) c.deref-2.ensures.value c.first_from-end.ensures.within in
    let from = subst (λ xs. (k : ℕ) → a ≤ k → k < length xs → c.args.cols.0 ≤ get_or xs k 0) c.deref.ensures.value c.first_from-first.ensures.from in
    let before = subst (λ xs. (k : ℕ) → k < b → get_or xs k 0 < c.args.cols.1) c.deref-2.ensures.value c.first_from-end.ensures.below in
    let same = ap (λ (x : Sparse). x.shape.cols) c.self.view_is in
    let small : c.args.self.now.shape.cols < 2 ^ 32 = omega (arith, same) in
    let inside = c.requires.cols in
    let less = c.if-end-first.false in
    let fits : (k : ℕ) → a ≤ k → k < b → get_or ct k 0 - c.args.cols.0 + c.args.corner.1 < 2 ^ 32 =
    λ k l m. fits_within (get_or ct k 0) c.args.cols.0 c.args.cols.1 c.args.corner.1 c.args.self.now.shape.cols (from k l (omega (arith, within))) (before k m) inside small in
    subst (All (λ n. n - c.args.cols.0 + c.args.corner.1 < 2 ^ 32)) (sym (c.between.ensures ∙ ap (λ xs. slice_range xs a b) c.deref-4.ensures.value))
    (range_all (λ n. n - c.args.cols.0 + c.args.corner.1 < 2 ^ 32) ct a b (omega arith) within fits)
  where
    fits_within : (n low high to cols : ℕ) → low ≤ n → n < high → to + (high - low) ≤ cols → cols < 2 ^ 32 → n - low + to < 2 ^ 32
    fits_within n low high to cols p q r t = omega arith

pub extend_starts-requires-clause-above : goal.extend_starts-requires-clause-above
extend_starts-requires-clause-above g c =
    let v = c.other.inside in
    let st = v.starts.items in
    let a = c.first_from-first.result in
    let b = c.first_from-end.result in
    let within = subst (λ xs. b ≤ length xs) c.deref-2.ensures.value c.first_from-end.ensures.within in
    let less = c.if-end-first.false in
    let count = c.other.invariant.lists.one_more_start (omega (arith, within)) in
    let first = c.starts_at-start.ensures.first ∙ ap (λ xs. get_or xs a 0) c.deref-3.ensures.value in
    let rises : (k : ℕ) → a + 1 ≤ k → k < b + 1 → c.starts_at-start.result.0 ≤ get_or st k 0 =
    λ k l m. (let rise = starts_rise v.columns.items st v.rows.items v.values.items c.other.invariant.lists a k (omega (arith, l)) (omega (arith, m, within)) in omega (arith, first, rise)) in
    subst (All (λ n. c.starts_at-start.result.0 ≤ n)) (sym (c.between-2.ensures ∙ ap (λ xs. slice_range xs (a + 1) (b + 1)) c.deref-5.ensures.value))
    (range_all (λ n. c.starts_at-start.result.0 ≤ n) st (a + 1) (b + 1) (omega arith) (omega (arith, count, within)) rises)

pub extend_starts-requires-clause-limit : goal.extend_starts-requires-clause-limit
extend_starts-requires-clause-limit g c =
    let v = c.other.inside in
    let st = v.starts.items in
    let a = c.first_from-first.result in
    let b = c.first_from-end.result in
    let within = subst (λ xs. b ≤ length xs) c.deref-2.ensures.value c.first_from-end.ensures.within in
    let less = c.if-end-first.false in
    let count = c.other.invariant.lists.one_more_start (omega (arith, within)) in
    let second = c.starts_at-start.ensures.second ∙ ap (λ xs. get_or xs b 0) c.deref-3.ensures.value in
    let len = c.len-len.ensures in
    let kept = c.in_ok-reserve_both-2.ensures.left_len in
    let room = c.in_ok-reserve_both-2.ensures.left_room in
    let small : vec_capacity c.reserve_both-2.new.left < 2 ^ 64 = search rules in
    let fits : (k : ℕ) → a + 1 ≤ k → k < b + 1 → get_or st k 0 - c.starts_at-start.result.0 + c.len-len.result < 2 ^ 64 =
    λ k l m. (let rise = starts_rise v.columns.items st v.rows.items v.values.items c.other.invariant.lists k b (omega (arith, m)) within in omega (arith, second, rise)) in
    subst (All (λ n. n - c.starts_at-start.result.0 + c.len-len.result < 2 ^ 64)) (sym (c.between-2.ensures ∙ ap (λ xs. slice_range xs (a + 1) (b + 1)) c.deref-5.ensures.value))
    (range_all (λ n. n - c.starts_at-start.result.0 + c.len-len.result < 2 ^ 64) st (a + 1) (b + 1) (omega arith) (omega (arith, count, within)) fits)

pub between-requires-3-clause-order : goal.between-requires-3-clause-order
between-requires-3-clause-order g c =
    let v = c.other.inside in
    let within = subst (λ xs. c.first_from-end.result ≤ length xs) c.deref-2.ensures.value c.first_from-end.ensures.within in
    let less = c.if-end-first.false in
    let first = c.starts_at-start.ensures.first ∙ ap (λ xs. get_or xs c.first_from-first.result 0) c.deref-3.ensures.value in
    let second = c.starts_at-start.ensures.second ∙ ap (λ xs. get_or xs c.first_from-end.result 0) c.deref-3.ensures.value in
    let rise = starts_rise v.columns.items v.starts.items v.rows.items v.values.items c.other.invariant.lists c.first_from-first.result c.first_from-end.result (omega arith) within in
    omega (arith, first, second, rise)

pub between-requires-3-clause-within : goal.between-requires-3-clause-within
between-requires-3-clause-within g c =
    let v = c.other.inside in
    let within = subst (λ xs. c.first_from-end.result ≤ length xs) c.deref-2.ensures.value c.first_from-end.ensures.within in
    let second = c.starts_at-start.ensures.second ∙ ap (λ xs. get_or xs c.first_from-end.result 0) c.deref-3.ensures.value in
    let inside = start_within v.columns.items v.starts.items v.rows.items v.values.items c.other.invariant.lists c.first_from-end.result within in
    let long = ap length c.deref-6.ensures.value in
    omega (arith, second, inside, long)

pub between-requires-4-clause-order : goal.between-requires-4-clause-order
between-requires-4-clause-order g c =
    let v = c.other.inside in
    let within = subst (λ xs. c.first_from-end.result ≤ length xs) c.deref-2.ensures.value c.first_from-end.ensures.within in
    let less = c.if-end-first.false in
    let first = c.starts_at-start.ensures.first ∙ ap (λ xs. get_or xs c.first_from-first.result 0) c.deref-3.ensures.value in
    let second = c.starts_at-start.ensures.second ∙ ap (λ xs. get_or xs c.first_from-end.result 0) c.deref-3.ensures.value in
    let rise = starts_rise v.columns.items v.starts.items v.rows.items v.values.items c.other.invariant.lists c.first_from-first.result c.first_from-end.result (omega arith) within in
    omega (arith, first, second, rise)

pub between-requires-4-clause-within : goal.between-requires-4-clause-within
between-requires-4-clause-within g c =
    let v = c.other.inside in
    let within = subst (λ xs. c.first_from-end.result ≤ length xs) c.deref-2.ensures.value c.first_from-end.ensures.within in
    let second = c.starts_at-start.ensures.second ∙ ap (λ xs. get_or xs c.first_from-end.result 0) c.deref-3.ensures.value in
    let inside = start_within v.columns.items v.starts.items v.rows.items v.values.items c.other.invariant.lists c.first_from-end.result within in
    let same = c.other.invariant.lists.same_length in
    let long = ap length c.deref-7.ensures.value in
    omega (arith, second, inside, same, long)

pub extend_moved-requires-2-clause-limit : goal.extend_moved-requires-2-clause-limit
extend_moved-requires-2-clause-limit g c =
    let v = c.other.inside in
    let s = g.S.Semiring.arithmetic in
    let other = c.args.other.now in
    let start = c.starts_at-start.result.0 in
    let stop = c.starts_at-start.result.1 in
    let rt = v.rows.items in
    let within = subst (λ xs. c.first_from-end.result ≤ length xs) c.deref-2.ensures.value c.first_from-end.ensures.within in
    let less = c.if-end-first.false in
    let first = c.starts_at-start.ensures.first ∙ ap (λ xs. get_or xs c.first_from-first.result 0) c.deref-3.ensures.value in
    let second = c.starts_at-start.ensures.second ∙ ap (λ xs. get_or xs c.first_from-end.result 0) c.deref-3.ensures.value in
    let rise = starts_rise v.columns.items v.starts.items rt v.values.items c.other.invariant.lists c.first_from-first.result c.first_from-end.result (omega arith) within in
    let high = start_within v.columns.items v.starts.items rt v.values.items c.other.invariant.lists c.first_from-end.result within in
    let same = ap (λ (x : Sparse). x.shape.rows) c.self.view_is in
    let small : c.args.self.now.shape.rows < 2 ^ 32 = omega (arith, same) in
    let fits = c.requires.rows in
    let inside : All (λ i. i < other.shape.rows) rt =
    all_rows_inside s other rt (subst (IsMatrix s) c.other.view_is c.other.invariant.matrix) (rows_are v.columns.items v.starts.items rt v.values.items other.entries c.other.invariant.lists (ap (λ (x : Sparse). x.entries) c.other.view_is)) in
    subst (All (λ n. n - 0 + c.args.corner.0 < 2 ^ 32)) (sym (c.between-3.ensures ∙ ap (λ xs. slice_range xs start stop) c.deref-6.ensures.value))
    (range_all (λ n. n - 0 + c.args.corner.0 < 2 ^ 32) rt start stop (omega (arith, first, second, rise)) (omega (arith, second, high)) (λ k l m.
    (let low = All-get_or (λ i. i < other.shape.rows) rt k 0 (omega (arith, m, second, high)) inside in omega (arith, low, fits, small))))

-- the block with these columns
with_them : (g : given.Over) (c : After-extend_reserved g) →
    let shape = c.self.inside.shape in
    let columns = c.extend_moved.new.list.items in
    let starts = c.extend_starts.new.starts.items in
    let rows = c.extend_moved-2.new.list.items in
    let values = c.extend_reserved.new.list.items in
    IsBlock g.S.Semiring.arithmetic shape columns starts rows values × (block_of shape columns starts rows values ≡ with_entries c.args.self.now (moved_columns c.args.cols c.args.corner c.args.other.now.entries))
with_them g c =
    let s = g.S.Semiring.arithmetic in
    let u = c.self.inside in
    let v = c.other.inside in
    let r = c.requires in
    let a = c.first_from-first.result in
    let b = c.first_from-end.result in
    let cols = c.args.cols in
    let corner = c.args.corner in
    let first = c.first_from-first.ensures in
    let end = c.first_from-end.ensures in
    let start = c.starts_at-start.ensures.first ∙ ap (λ xs. get_or xs a 0) c.deref-3.ensures.value in
    let stop = c.starts_at-start.ensures.second ∙ ap (λ xs. get_or xs b 0) c.deref-3.ensures.value in
    let len : c.len-len.result ≡ length u.rows.items = search rules in
    let lists = c.in_ok-reserve_both.ensures in
    let entries = c.in_ok-reserve_both-2.ensures in
    let less : a < b = c.if-end-first.false in
    columns_appended s u.shape u.columns.items u.starts.items u.rows.items u.values.items c.self.invariant c.args.self.now c.self.view_is v.shape v.columns.items v.starts.items v.rows.items v.values.items c.other.invariant c.args.other.now c.other.view_is
    cols corner r.rows r.cols r.before a b less
    (subst (λ xs. b ≤ length xs) c.deref-2.ensures.value end.within)
    (subst (λ xs. (k : ℕ) → k < a → get_or xs k 0 < cols.0) c.deref.ensures.value first.below)
    (subst (λ xs. (k : ℕ) → a ≤ k → k < length xs → cols.0 ≤ get_or xs k 0) c.deref.ensures.value first.from)
    (subst (λ xs. (k : ℕ) → k < b → get_or xs k 0 < cols.1) c.deref-2.ensures.value end.below)
    (subst (λ xs. (k : ℕ) → b ≤ k → k < length xs → cols.1 ≤ get_or xs k 0) c.deref-2.ensures.value end.from)
    _ _ _ _
    (c.extend_moved.ensures ∙ (λ i. lists.left i ++ map (λ n. n - cols.0 + corner.1) ((c.between.ensures ∙ ap (λ xs. slice_range xs a b) c.deref-4.ensures.value) i)))
    (c.extend_starts.ensures ∙ (λ i. opened (lists.right i) ++ map (λ n. n - start i + len i) ((c.between-2.ensures ∙ ap (λ xs. slice_range xs (a + 1) (b + 1)) c.deref-5.ensures.value) i)))
    (c.extend_moved-2.ensures ∙ (λ i. entries.left i ++ map (λ n. n - 0 + corner.0) ((c.between-3.ensures ∙ (λ j. slice_range (c.deref-6.ensures.value j) (start j) (stop j))) i)))
    (c.extend_reserved.ensures ∙ (λ i. entries.right i ++ (c.between-4.ensures ∙ (λ j. slice_range (c.deref-7.ensures.value j) (start j) (stop j))) i))

pub invariant_of-self-2 : goal.invariant_of-self-2
invariant_of-self-2 g c = (with_them g (goal.at.invariant_of-self-2 g c).After-extend_reserved).0

pub returns-clause-ok : goal.returns-clause-ok
returns-clause-ok g c = (with_them g (goal.at.returns-clause-ok g c).After-extend_reserved).1

pub returns-clause-matrix : goal.returns-clause-matrix
returns-clause-matrix g c = (with_them g (goal.at.returns-clause-matrix g c).After-extend_reserved).0.matrix
