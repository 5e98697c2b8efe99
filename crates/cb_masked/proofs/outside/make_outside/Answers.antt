use Rattle.std.proofs.Common.{◌<◌, ◌≤◌, length, get_or, sym, ap, subst, ◌∙◌}
use Rattle.std.specs.Prelude.{All, slice_range}
use Rattle.cb_matrix.specs.Sparse.{Extent}
use Rattle.cb_matrix.specs.Values.{product_shape, empty_matrix}
use Rattle.cb_dcsc.specs.Columns.{columns_with_entries, rows_of, values_of}
use Rattle.cb_dcsc.proofs.Lookup.{as_long, rows_inside}
use Rattle.cb_product.proofs.OnlyColumns.{only_matrix}
use Rattle.cb_product.proofs.ColumnsMade.{walk_none, walk_more, walk_all, before_column}
use Rattle.cb_product.proofs.StoredColumn.{column_inside, column_adds}
use Rattle.cb_masked.specs.SomeColumns.{only_places}
use Rattle.cb_masked.proofs.SomeColumns.{some_ascend, some_inside, in_some, same_column}
use Rattle.cb_masked.proofs.OutsideColumns.{left_outside_of, outside_absent, outside_column, outside_past, outside_all}
use Rattle.cb_masked.proofs.outside.make_outside.Goals as goal

pub loop-n-init : goal.loop-n-init
loop-n-init g c =
    let s = g.S.Semiring.arithmetic in
    let r = c.requires in
    let a = c.args.left.now in
    let b = c.args.right.now in
    let m = c.args.mask.now in
    let laws = g.met.S.Semiring.is_semiring in
    let all = c.column_numbers-all in
    let low = c.args.low in
    let high = c.args.high in
    let h : high ≤ length all.result.now = subst (λ cs. high ≤ length cs) (sym all.ensures.numbers) r.within in
    let cs = slice_range all.result.now low high in
    let some = only_places low high b in
    let is_a = c.shape.ensures.matrix in
    let is_some = only_matrix s (slice_range (columns_with_entries b.entries) low high) b c.shape-2.ensures.matrix in
    let is_m = c.shape-3.ensures.matrix in
    let up = some_ascend all.result.now low high h all.ensures.ascending in
    let within = some_inside all.result.now low high h b.shape.cols all.ensures.inside in
    let absent = outside_absent s laws a some m is_a is_some is_m r.agree cs (in_some b low high all.result.now all.ensures.numbers) in
    record {
      made = walk_none s (product_shape a b) (left_outside_of s a some m) cs up within absent _ r.matrix (r.empty ∙ ap empty_matrix r.shape);
      told = r.told;
    }

pub make_outside-requires-clause-told : goal.make_outside-requires-clause-told
make_outside-requires-clause-told g c = c.loop-n.invariant.told

pub make_outside-requires-clause-lengths : goal.make_outside-requires-clause-lengths
make_outside-requires-clause-lengths g c = as_long c.args.right.now.entries _ _ _ c.nth_column.ensures.rows c.nth_column.ensures.values

pub make_outside-requires-clause-factors : goal.make_outside-requires-clause-factors
make_outside-requires-clause-factors g c = c.nth_column.ensures.are_values

pub make_outside-requires-clause-inside : goal.make_outside-requires-clause-inside
make_outside-requires-clause-inside g c =
    let rows = rows_inside g.S.Semiring.arithmetic c.args.right.now _ _ c.shape-2.ensures.matrix c.nth_column.ensures.rows in
    subst (λ n. All (λ i. i < n) c.nth_column.result.0.now) (sym c.requires.agree) rows

pub make_outside-requires-clause-excluded : goal.make_outside-requires-clause-excluded
make_outside-requires-clause-excluded g c = c.column.ensures.ascending

pub make_outside-requires-clause-excluded_inside : goal.make_outside-requires-clause-excluded_inside
make_outside-requires-clause-excluded_inside g c =
    let rows = rows_inside g.S.Semiring.arithmetic c.args.mask.now _ _ c.shape-3.ensures.matrix c.column.ensures.rows in
    subst (λ (e : Extent). All (λ i. i < e.rows) c.column.result.0.now) c.requires.shape rows

pub push_column-requires-clause-lengths : goal.push_column-requires-clause-lengths
push_column-requires-clause-lengths g c = rw (c.entries.ensures.rows, c.entries.ensures.values) c.entries.ensures.column.same_length

pub push_column-requires-clause-ascending : goal.push_column-requires-clause-ascending
push_column-requires-clause-ascending g c = rw c.entries.ensures.rows c.entries.ensures.column.ascending

pub push_column-requires-clause-values : goal.push_column-requires-clause-values
push_column-requires-clause-values g c = rw c.entries.ensures.values c.entries.ensures.column.are_values

pub push_column-requires-clause-not_zero : goal.push_column-requires-clause-not_zero
push_column-requires-clause-not_zero g c = rw c.entries.ensures.values c.entries.ensures.column.not_zero

pub push_column-requires-clause-column : goal.push_column-requires-clause-column
push_column-requires-clause-column g c =
    let all = c.column_numbers-all in
    let low = c.args.low in
    let high = c.args.high in
    let h : high ≤ length all.result.now = subst (λ cs. high ≤ length cs) (sym all.ensures.numbers) c.requires.within in
    let inside = some_inside all.result.now low high h c.args.right.now.shape.cols all.ensures.inside c.loop-n.n 0 c.loop-n-test.true in
    let cols = ap (λ (e : Extent). e.cols) c.loop-n.invariant.made.shape in
    subst (λ n. get_or (slice_range all.result.now low high) c.loop-n.n 0 < n) (sym cols) inside

pub push_column-requires-clause-before : goal.push_column-requires-clause-before
push_column-requires-clause-before g c =
    before_column g.S.Semiring.arithmetic _ _ (slice_range c.column_numbers-all.result.now c.args.low c.args.high) c.loop-n.n c.loop-n.out c.loop-n-test.true c.loop-n.invariant.made

pub push_column-requires-clause-rows : goal.push_column-requires-clause-rows
push_column-requires-clause-rows g c =
    let s = g.S.Semiring.arithmetic in
    let a = c.args.left.now in
    let shape = ap (λ (e : Extent). e.rows) c.loop-n.invariant.made.shape in
    rw (c.entries.ensures.rows, shape) (column_inside s 0 _ _ _ c.entries.ensures.column c.in_ok-make_outside.ensures a.shape.rows (λ i l. outside_past s g.met.S.Semiring.is_semiring a c.shape.ensures.matrix _ _ _ i l c.nth_column.ensures.are_values))

pub loop-n-preserved : goal.loop-n-preserved
loop-n-preserved g c =
    let s = g.S.Semiring.arithmetic in
    let laws = g.met.S.Semiring.is_semiring in
    let r = c.requires in
    let a = c.args.left.now in
    let b = c.args.right.now in
    let m = c.args.mask.now in
    let all = c.column_numbers-all in
    let low = c.args.low in
    let high = c.args.high in
    let h : high ≤ length all.result.now = subst (λ cs. high ≤ length cs) (sym all.ensures.numbers) r.within in
    let cs = slice_range all.result.now low high in
    let some = only_places low high b in
    let is_a = c.shape.ensures.matrix in
    let is_some = only_matrix s (slice_range (columns_with_entries b.entries) low high) b c.shape-2.ensures.matrix in
    let is_m = c.shape-3.ensures.matrix in
    let up = some_ascend all.result.now low high h all.ensures.ascending in
    let within = some_inside all.result.now low high h b.shape.cols all.ensures.inside in
    let absent = outside_absent s laws a some m is_a is_some is_m r.agree cs (in_some b low high all.result.now all.ensures.numbers) in
    let n = c.loop-n.n in
    let l = c.loop-n-test.true in
    let inv = c.loop-n.invariant in
    let j = get_or cs n 0 in
    let same = same_column b low high all.result.now all.ensures.numbers n h l in
    let inner_are = c.nth_column.ensures.rows ∙ ap rows_of same in
    let factors_are = c.nth_column.ensures.values ∙ ap values_of same in
    let before = before_column s (product_shape a b) (left_outside_of s a some m) cs n c.loop-n.out l inv.made in
    let stored = rw (c.entries.ensures.rows, c.entries.ensures.values) at c.in_ok-push_column.ensures.ok in
    let adds = column_adds s j _ _ _ c.entries.ensures.column c.in_ok-make_outside.ensures c.loop-n.out _ before stored c.in_ok-push_column.ensures.matrix in
    record {
      made = walk_more s (product_shape a b) (left_outside_of s a some m) cs up within absent c.loop-n.out _ n _ l adds (outside_column s laws a some m is_a is_some is_m r.agree j c.column.result.0.now c.column.result.1.now c.nth_column.result.0.now c.nth_column.result.1.now c.column.ensures.rows c.column.ensures.values inner_are factors_are) inv.made;
      told = inv.told;
    }

pub returns : goal.returns
returns g c =
    let s = g.S.Semiring.arithmetic in
    let laws = g.met.S.Semiring.is_semiring in
    let r = c.requires in
    let a = c.args.left.now in
    let b = c.args.right.now in
    let m = c.args.mask.now in
    let all = c.column_numbers-all in
    let low = c.args.low in
    let high = c.args.high in
    let h : high ≤ length all.result.now = subst (λ cs. high ≤ length cs) (sym all.ensures.numbers) r.within in
    let cs = slice_range all.result.now low high in
    let some = only_places low high b in
    let is_a = c.shape.ensures.matrix in
    let is_some = only_matrix s (slice_range (columns_with_entries b.entries) low high) b c.shape-2.ensures.matrix in
    let is_m = c.shape-3.ensures.matrix in
    let up = some_ascend all.result.now low high h all.ensures.ascending in
    let within = some_inside all.result.now low high h b.shape.cols all.ensures.inside in
    let absent = outside_absent s laws a some m is_a is_some is_m r.agree cs (in_some b low high all.result.now all.ensures.numbers) in
    outside_all s laws a some m is_a is_some is_m r.agree c.loop-n.out
    (walk_all s (product_shape a b) (left_outside_of s a some m) cs up within absent laws c.loop-n.out c.loop-n.n c.loop-n-test.false c.loop-n.invariant.made)
