use Rattle.std.proofs.Common.{◌<◌, length, take, get_or, refl, sym, ap, subst, ◌∙◌, arith}
use Rattle.std.specs.Prelude.{All}
use Rattle.cb_matrix.specs.Sparse.{Extent}
use Rattle.cb_dcsc.proofs.Lookup.{rows_inside}
use Rattle.cb_product.proofs.StoredColumn.{column_adds}
use Rattle.cb_selections.specs.RowTables.{IsRowTable}
use Rattle.cb_selections.proofs.ListedRows.{value_for, listed_has, listed_column}
use Rattle.cb_selections.proofs.ExtractedColumns.{both_listed}
use Rattle.cb_selections.proofs.RangedColumns.{ranged_none, ranged_more, ranged_all}
use Rattle.cb_selections.proofs.extracts.push_both.Goals as goal

pub loop-n-init : goal.loop-n-init
loop-n-init g c =
    let s = g.S.Semiring.arithmetic in
    let a = c.args.block.now in
    let cols = c.args.cols.now in
    ranged_none s (record { rows = length c.args.listed.now; cols = length cols }) (λ i j. value_for s a c.requires.matrix c.args.listed.now i (get_or cols j 0)) c.args.first c.args.end c.args.out.now c.requires.out_matrix c.requires.empty

pub keep_listed-requires-clause-inside : goal.keep_listed-requires-clause-inside
keep_listed-requires-clause-inside g c =
    subst (λ m. All (λ i. i < m) c.column_at.result.0.now) (sym c.requires.table.places.count)
    (rows_inside g.S.Semiring.arithmetic c.args.block.now (get_or c.args.cols.now c.loop-n.n 0) c.column_at.result.0.now c.requires.matrix c.column_at.ensures.rows)

pub keep_listed-requires-clause-table : goal.keep_listed-requires-clause-table
keep_listed-requires-clause-table g c =
    subst (λ m. IsRowTable m c.args.listed.now c.args.table.now) (sym c.requires.table.places.count) c.requires.table

pub push_column-requires-clause-rows : goal.push_column-requires-clause-rows
push_column-requires-clause-rows g c =
    let shape = ap (λ (x : Extent). x.rows) c.loop-n.invariant.shape in
    rw c.deref.ensures.value (subst (λ m. All (λ i. i < m) (take c.in_ok-count.count c.keep_listed.new.kept.rows.items)) (sym shape) c.in_ok-count.ensures.listed.inside)

pub push_column-requires-clause-values : goal.push_column-requires-clause-values
push_column-requires-clause-values g c =
    let a = c.args.block.now in
    let e = c.column_at.ensures in
    let n = c.in_ok-count.count in
    rw c.deref-in-loop-n.ensures.value (listed_column g.S.Semiring.arithmetic a c.requires.matrix c.args.listed.now (get_or c.args.cols.now c.loop-n.n 0) c.column_at.result.0.now c.column_at.result.1.now (take n c.keep_listed.new.kept.rows.items) (take n c.keep_listed.new.kept.values.items) e.rows e.values c.in_ok-count.ensures.listed).are_values

pub push_column-requires-clause-not_zero : goal.push_column-requires-clause-not_zero
push_column-requires-clause-not_zero g c =
    let a = c.args.block.now in
    let e = c.column_at.ensures in
    let n = c.in_ok-count.count in
    rw c.deref-in-loop-n.ensures.value (listed_column g.S.Semiring.arithmetic a c.requires.matrix c.args.listed.now (get_or c.args.cols.now c.loop-n.n 0) c.column_at.result.0.now c.column_at.result.1.now (take n c.keep_listed.new.kept.rows.items) (take n c.keep_listed.new.kept.values.items) e.rows e.values c.in_ok-count.ensures.listed).not_zero

pub loop-n-preserved : goal.loop-n-preserved
loop-n-preserved g c =
    let s = g.S.Semiring.arithmetic in
    let a = c.args.block.now in
    let is = c.requires.matrix in
    let listed = c.args.listed.now in
    let cols = c.args.cols.now in
    let n = c.loop-n.n in
    let j = get_or cols n 0 in
    let rows = c.column_at.result.0.now in
    let values = c.column_at.result.1.now in
    let ks = take c.in_ok-count.count c.keep_listed.new.kept.rows.items in
    let ws = take c.in_ok-count.count c.keep_listed.new.kept.values.items in
    let e = c.column_at.ensures in
    let kept = c.in_ok-count.ensures.listed in
    let has = listed_has s a is listed j rows values ks ws e.rows e.values kept in
    let stored = rw (c.deref.ensures.value, c.deref-in-loop-n.ensures.value) at c.in_ok-push_column.ensures.ok in
    let adds = column_adds s n (λ i. value_for s a is listed i j) ks ws (listed_column s a is listed j rows values ks ws e.rows e.values kept) has c.loop-n.out c.push_column.new.self c.loop-n.invariant.before stored c.in_ok-push_column.ensures.matrix in
    ranged_more s (record { rows = length listed; cols = length cols }) (λ i k. value_for s a is listed i (get_or cols k 0)) c.args.first c.args.end c.loop-n.out c.push_column.new.self n (λ i. value_for s a is listed i j) (omega arith) c.loop-n-test.true adds (λ i. refl) c.loop-n.invariant

pub returns : goal.returns
returns g c =
    let s = g.S.Semiring.arithmetic in
    let a = c.args.block.now in
    let cols = c.args.cols.now in
    let t = c.loop-n-test.false in
    let u = c.loop-n.auto.n-end in
    ranged_all s (record { rows = length c.args.listed.now; cols = length cols }) (λ i j. value_for s a c.requires.matrix c.args.listed.now i (get_or cols j 0)) c.args.first c.args.end g.met.S.Semiring.is_semiring c.loop-n.out c.loop-n.n (omega arith) (omega arith) c.loop-n.invariant
    ∙ both_listed s a c.requires.matrix c.args.listed.now cols c.args.first c.args.end
