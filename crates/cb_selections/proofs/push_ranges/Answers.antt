use Rattle.std.proofs.Common.{◌≡◌, ◌≢◌, ◌<◌, ◌-◌, ℕ, get_or, refl, sym, ap, subst, ◌∙◌, arith}
use Rattle.std.specs.Prelude.{All, slice_range}
use Rattle.std.proofs.lemmas.List.Elements.{All-take, All-drop}
use Rattle.cb_matrix.specs.Sparse.{Extent}
use Rattle.cb_dcsc.specs.Columns.{rows_of, values_of, row_value}
use Rattle.cb_dcsc.proofs.Lookup.{rows_inside}
use Rattle.cb_product.proofs.OwnColumn.{own_sparse}
use Rattle.cb_product.proofs.ProductColumns.{own_column}
use Rattle.cb_product.proofs.StoredColumn.{column_adds}
use Rattle.cb_product.proofs.ColumnsMade.{walk_none, walk_more, walk_all, before_column}
use Rattle.cb_operations.specs.Regions.{is_in, where_true}
use Rattle.cb_elementwise.proofs.ReplacedColumns.{nth_are}
use Rattle.cb_selections.proofs.RegionRanges.{value_for, range_absent, range_value, range_column}
use Rattle.cb_selections.proofs.push_ranges.Goals as goal

pub loop-n-init : goal.loop-n-init
loop-n-init g c =
    let s = g.S.Semiring.arithmetic in
    let a = c.args.block.now in
    let cs = c.column_numbers-columns in
    walk_none s a.shape (value_for s a c.requires.matrix c.args.region) cs.result.now cs.ensures.ascending cs.ensures.inside (range_absent s a c.requires.matrix c.args.region cs.result.now cs.ensures.all) c.args.kept.now c.requires.kept_matrix c.requires.empty

pub returns : goal.returns
returns g c =
    let s = g.S.Semiring.arithmetic in
    let a = c.args.block.now in
    let cs = c.column_numbers-columns in
    walk_all s a.shape (value_for s a c.requires.matrix c.args.region) cs.result.now cs.ensures.ascending cs.ensures.inside (range_absent s a c.requires.matrix c.args.region cs.result.now cs.ensures.all) g.met.S.Semiring.is_semiring c.loop-n.kept c.loop-n.n (let t = c.loop-n-test.false in omega arith) c.loop-n.invariant

pub push_column-requires-clause-rows : goal.push_column-requires-clause-rows
push_column-requires-clause-rows g c =
    let a = c.args.block.now in
    let cs = c.column_numbers-columns in
    let n = c.loop-n.n in
    let rows = c.nth_column.result.0.now in
    let start = c.range-start.result.0 in
    let end = c.range-start.result.1 in
    let shape = ap (λ (x : Extent). x.rows) c.loop-n.invariant.shape in
    let inside = rows_inside g.S.Semiring.arithmetic a (get_or cs.result.now n 0) rows c.requires.matrix (nth_are a.entries cs.result.now rows n rows_of cs.ensures.numbers c.nth_column.ensures.rows) in
    subst (λ m. All (λ i. i < m) (slice_range rows start end)) (sym shape) (All-take (λ i. i < a.shape.rows) (end - start) _ (All-drop (λ i. i < a.shape.rows) start rows inside))

pub push_column-requires-clause-not_zero : goal.push_column-requires-clause-not_zero
push_column-requires-clause-not_zero g c =
    let s = g.S.Semiring.arithmetic in
    let a = c.args.block.now in
    let cs = c.column_numbers-columns in
    let n = c.loop-n.n in
    let values = c.nth_column.result.1.now in
    let start = c.range-start.result.0 in
    let end = c.range-start.result.1 in
    let own = own_sparse s a c.requires.matrix (get_or cs.result.now n 0) _ values (nth_are a.entries cs.result.now c.nth_column.result.0.now n rows_of cs.ensures.numbers c.nth_column.ensures.rows) (nth_are a.entries cs.result.now values n values_of cs.ensures.numbers c.nth_column.ensures.values) in
    All-take (λ v. v ≢ s.zero) (end - start) _ (All-drop (λ v. v ≢ s.zero) start values own.not_zero)

pub loop-n-preserved : goal.loop-n-preserved
loop-n-preserved g c =
    let s = g.S.Semiring.arithmetic in
    let a = c.args.block.now in
    let is = c.requires.matrix in
    let region = c.args.region in
    let cs = c.column_numbers-columns in
    let n = c.loop-n.n in
    let j = get_or cs.result.now n 0 in
    let rows = c.nth_column.result.0.now in
    let values = c.nth_column.result.1.now in
    let range = c.range-start.ensures in
    let start = c.range-start.result.0 in
    let end = c.range-start.result.1 in
    let rows_are = nth_are a.entries cs.result.now rows n rows_of cs.ensures.numbers c.nth_column.ensures.rows in
    let values_are = nth_are a.entries cs.result.now values n values_of cs.ensures.numbers c.nth_column.ensures.values in
    let own = own_sparse s a is j rows values rows_are values_are in
    let column = range_column rows values own.same_length start end range.order range.within s own in
    let has : (i : ℕ) → row_value s.zero (slice_range rows start end) (slice_range values start end) i ≡ value_for s a is region i j =
    λ i. range_value rows values own.same_length start end range.order range.within s.zero (λ k. is_in region k j) range.inside range.before range.after i
    ∙ ap (where_true s.zero (is_in region i j)) (own_column s a j rows values rows_are values_are i) in
    let before = before_column s a.shape (value_for s a is region) cs.result.now n c.loop-n.kept c.loop-n-test.true c.loop-n.invariant in
    let adds = column_adds s j (λ i. value_for s a is region i j) (slice_range rows start end) (slice_range values start end) column has c.loop-n.kept c.push_column.new.self before c.in_ok-push_column.ensures.ok c.in_ok-push_column.ensures.matrix in
    walk_more s a.shape (value_for s a is region) cs.result.now cs.ensures.ascending cs.ensures.inside (range_absent s a is region cs.result.now cs.ensures.all) c.loop-n.kept c.push_column.new.self n (λ i. value_for s a is region i j) c.loop-n-test.true adds (λ i. refl) c.loop-n.invariant
