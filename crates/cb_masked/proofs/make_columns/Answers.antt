use Rattle.std.proofs.Common.{◌≡◌, ◌<◌, ◌≤◌, length, get_or, sym, ap, subst, ◌∙◌, arith, rules}
use Rattle.std.specs.Prelude.{All, slice_range}
use Rattle.cb_matrix.specs.Sparse.{Extent}
use Rattle.cb_matrix.specs.Values.{product_shape, empty_matrix}
use Rattle.cb_matrix.specs.declared.TheConstants.{LIMIT}
use Rattle.cb_dcsc.specs.Columns.{columns_with_entries, rows_of, values_of, row_value}
use Rattle.cb_dcsc.proofs.Lookup.{as_long, rows_inside}
use Rattle.cb_product.proofs.OnlyColumns.{only_matrix}
use Rattle.cb_product.proofs.ColumnsMade.{walk_none, walk_more, walk_all, before_column}
use Rattle.cb_product.proofs.RowValues.{absent_above}
use Rattle.cb_product.proofs.StoredColumn.{column_inside, column_adds}
use Rattle.cb_masked.specs.SomeColumns.{only_places}
use Rattle.cb_masked.proofs.AscendingPlaces.{few_below}
use Rattle.cb_masked.proofs.MaskedColumns.{left_of, left_absent, left_column}
use Rattle.cb_masked.proofs.SomeColumns.{some_ascend, some_inside, in_some, same_column}
use Rattle.cb_masked.proofs.make_columns.Goals as goal

pub loop-n-init : goal.loop-n-init
loop-n-init g c =
    let s = g.S.Semiring.arithmetic in
    let laws = g.met.S.Semiring.is_semiring in
    let r = c.requires in
    let a = c.args.left.now in
    let b = c.args.right.now in
    let m = c.args.mask.now in
    let all = c.column_numbers-all in
    let low = c.args.low in
    let high = c.args.high in
    let h : high ≤ length all.result.now = subst (λ cs. high ≤ length cs) (sym all.ensures.numbers) r.within in
    let cs = slice_range all.result.now low high in
    let some = only_places low high m in
    let is_some = only_matrix s (slice_range (columns_with_entries m.entries) low high) m c.shape-3.ensures.matrix in
    let up = some_ascend all.result.now low high h all.ensures.ascending in
    let within = subst (λ (e : Extent). All (λ k. k < e.cols) cs) r.shape (some_inside all.result.now low high h m.shape.cols all.ensures.inside) in
    let absent = left_absent s laws a b some c.shape.ensures.matrix c.shape-2.ensures.matrix is_some r.agree r.shape cs (in_some m low high all.result.now all.ensures.numbers) in
    record {
      made = walk_none s (product_shape a b) (left_of s a b some) cs up within absent _ r.matrix (r.empty ∙ ap empty_matrix r.shape);
      cleared = r.cleared;
    }

pub sum_column-requires-clause-left : goal.sum_column-requires-clause-left
sum_column-requires-clause-left g c = c.shape.ensures.matrix

pub sum_column-requires-clause-few : goal.sum_column-requires-clause-few
sum_column-requires-clause-few g c =
    let s = g.S.Semiring.arithmetic in
    let m = c.args.mask.now in
    let fits : c.shape-3.result.rows ≤ LIMIT = search rules in
    let same : c.shape-3.result.rows ≡ m.shape.rows = ap (λ (e : Extent). e.rows) c.shape-3.ensures.shape in
    let few = few_below c.nth_column.result.0.now m.shape.rows c.nth_column.ensures.ascending (rows_inside s m _ _ c.shape-3.ensures.matrix c.nth_column.ensures.rows) in
    omega arith

pub sum_column-requires-clause-lengths : goal.sum_column-requires-clause-lengths
sum_column-requires-clause-lengths g c = as_long c.args.right.now.entries _ _ _ c.column.ensures.rows c.column.ensures.values

pub keep_nonzero-requires-clause-lengths : goal.keep_nonzero-requires-clause-lengths
keep_nonzero-requires-clause-lengths g c = rw c.deref.ensures.value c.in_ok-sum_column.ensures.same_length

pub keep_nonzero-requires-clause-values : goal.keep_nonzero-requires-clause-values
keep_nonzero-requires-clause-values g c = rw c.deref.ensures.value c.in_ok-sum_column.ensures.are_values

pub push_column-requires-clause-lengths : goal.push_column-requires-clause-lengths
push_column-requires-clause-lengths g c = rw (c.deref-in-loop-n.ensures.value, c.deref-in-loop-n-2.ensures.value) c.in_ok-keep_nonzero.ensures.column.same_length

pub push_column-requires-clause-ascending : goal.push_column-requires-clause-ascending
push_column-requires-clause-ascending g c = rw c.deref-in-loop-n.ensures.value c.in_ok-keep_nonzero.ensures.column.ascending

pub push_column-requires-clause-values : goal.push_column-requires-clause-values
push_column-requires-clause-values g c = rw c.deref-in-loop-n-2.ensures.value c.in_ok-keep_nonzero.ensures.column.are_values

pub push_column-requires-clause-not_zero : goal.push_column-requires-clause-not_zero
push_column-requires-clause-not_zero g c = rw c.deref-in-loop-n-2.ensures.value c.in_ok-keep_nonzero.ensures.column.not_zero

pub push_column-requires-clause-column : goal.push_column-requires-clause-column
push_column-requires-clause-column g c =
    let r = c.requires in
    let all = c.column_numbers-all in
    let low = c.args.low in
    let high = c.args.high in
    let h : high ≤ length all.result.now = subst (λ cs. high ≤ length cs) (sym all.ensures.numbers) r.within in
    let cs = slice_range all.result.now low high in
    let inside = some_inside all.result.now low high h c.args.mask.now.shape.cols all.ensures.inside c.loop-n.n 0 c.loop-n-test.true in
    subst (λ (e : Extent). get_or cs c.loop-n.n 0 < e.cols) (r.shape ∙ sym c.loop-n.invariant.made.shape) inside

pub push_column-requires-clause-before : goal.push_column-requires-clause-before
push_column-requires-clause-before g c =
    before_column g.S.Semiring.arithmetic _ _ (slice_range c.column_numbers-all.result.now c.args.low c.args.high) c.loop-n.n c.loop-n.out c.loop-n-test.true c.loop-n.invariant.made

pub push_column-requires-clause-rows : goal.push_column-requires-clause-rows
push_column-requires-clause-rows g c =
    let s = g.S.Semiring.arithmetic in
    let m = c.args.mask.now in
    let kept = c.in_ok-keep_nonzero.ensures in
    let rows = c.nth_column.result.0.now in
    let inside = rows_inside s m _ _ c.shape-3.ensures.matrix c.nth_column.ensures.rows in
    let sides = ap (λ (e : Extent). e.rows) (c.loop-n.invariant.made.shape ∙ sym c.requires.shape) in
    rw (c.deref-in-loop-n.ensures.value, sides) (column_inside s 0 (row_value s.zero rows c.deref.result.now) _ _ kept.column kept.values m.shape.rows (λ i l. absent_above s.zero m.shape.rows rows c.deref.result.now i inside l))

pub loop-n-preserved : goal.loop-n-preserved
loop-n-preserved g c =
    let s = g.S.Semiring.arithmetic in
    let laws = g.met.S.Semiring.is_semiring in
    let r = c.requires in
    let a = c.args.left.now in
    let b = c.args.right.now in
    let m = c.args.mask.now in
    let all = c.column_numbers-all in
    let low = c.args.low in
    let high = c.args.high in
    let h : high ≤ length all.result.now = subst (λ cs. high ≤ length cs) (sym all.ensures.numbers) r.within in
    let cs = slice_range all.result.now low high in
    let some = only_places low high m in
    let is_some = only_matrix s (slice_range (columns_with_entries m.entries) low high) m c.shape-3.ensures.matrix in
    let up = some_ascend all.result.now low high h all.ensures.ascending in
    let within = subst (λ (e : Extent). All (λ k. k < e.cols) cs) r.shape (some_inside all.result.now low high h m.shape.cols all.ensures.inside) in
    let absent = left_absent s laws a b some c.shape.ensures.matrix c.shape-2.ensures.matrix is_some r.agree r.shape cs (in_some m low high all.result.now all.ensures.numbers) in
    let n = c.loop-n.n in
    let l = c.loop-n-test.true in
    let inv = c.loop-n.invariant in
    let j = get_or cs n 0 in
    let lj : j < m.shape.cols = some_inside all.result.now low high h m.shape.cols all.ensures.inside n 0 l in
    let same = same_column m low high all.result.now all.ensures.numbers n h l in
    let rows_are = c.nth_column.ensures.rows ∙ ap rows_of same in
    let values_are = c.nth_column.ensures.values ∙ ap values_of same in
    let sum = c.in_ok-sum_column.ensures in
    let kept = c.in_ok-keep_nonzero.ensures in
    let has = rw c.deref.ensures.value at kept.values in
    let before = before_column s (product_shape a b) (left_of s a b some) cs n c.loop-n.out l inv.made in
    let stored = rw (c.deref-in-loop-n.ensures.value, c.deref-in-loop-n-2.ensures.value) at c.in_ok-push_column.ensures.ok in
    let adds = column_adds s j _ _ _ kept.column has c.loop-n.out _ before stored c.in_ok-push_column.ensures.matrix in
    record {
      made = walk_more s (product_shape a b) (left_of s a b some) cs up within absent c.loop-n.out _ n _ l adds (left_column s laws a b some c.shape.ensures.matrix c.shape-2.ensures.matrix is_some r.agree r.shape j lj c.nth_column.result.0.now c.nth_column.result.1.now c.column.result.0.now c.column.result.1.now _ rows_are values_are c.column.ensures.rows c.column.ensures.values sum.same_length sum.sums) inv.made;
      cleared = sum.cleared;
    }

pub returns : goal.returns
returns g c =
    let s = g.S.Semiring.arithmetic in
    let laws = g.met.S.Semiring.is_semiring in
    let r = c.requires in
    let a = c.args.left.now in
    let b = c.args.right.now in
    let m = c.args.mask.now in
    let all = c.column_numbers-all in
    let low = c.args.low in
    let high = c.args.high in
    let h : high ≤ length all.result.now = subst (λ cs. high ≤ length cs) (sym all.ensures.numbers) r.within in
    let cs = slice_range all.result.now low high in
    let some = only_places low high m in
    let is_some = only_matrix s (slice_range (columns_with_entries m.entries) low high) m c.shape-3.ensures.matrix in
    let up = some_ascend all.result.now low high h all.ensures.ascending in
    let within = subst (λ (e : Extent). All (λ k. k < e.cols) cs) r.shape (some_inside all.result.now low high h m.shape.cols all.ensures.inside) in
    let absent = left_absent s laws a b some c.shape.ensures.matrix c.shape-2.ensures.matrix is_some r.agree r.shape cs (in_some m low high all.result.now all.ensures.numbers) in
    walk_all s (product_shape a b) (left_of s a b some) cs up within absent laws c.loop-n.out c.loop-n.n c.loop-n-test.false c.loop-n.invariant.made
