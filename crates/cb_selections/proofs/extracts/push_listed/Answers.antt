use Rattle.std.proofs.Common.{◌<◌, length, take, get_or, refl, sym, subst, ◌∙◌, arith}
use Rattle.std.specs.Prelude.{All}
use Rattle.cb_matrix.specs.Sparse.{Extent}
use Rattle.cb_dcsc.specs.Columns.{rows_of, values_of}
use Rattle.cb_dcsc.proofs.Lookup.{rows_inside}
use Rattle.cb_product.proofs.StoredColumn.{column_adds}
use Rattle.cb_product.proofs.ColumnsMade.{walk_none, walk_more, walk_all, before_column}
use Rattle.cb_selections.specs.RowTables.{IsRowTable}
use Rattle.cb_elementwise.proofs.ReplacedColumns.{nth_are}
use Rattle.cb_selections.proofs.ListedRows.{value_for, listed_absent, listed_has, listed_column, listed_are}
use Rattle.cb_selections.proofs.extracts.push_listed.Goals as goal

pub loop-n-init : goal.loop-n-init
loop-n-init g c =
    let s = g.S.Semiring.arithmetic in
    let a = c.args.block.now in
    let listed = c.args.listed.now in
    let cs = c.column_numbers-columns in
    walk_none s (record { rows = length listed; cols = a.shape.cols }) (value_for s a c.requires.matrix listed) cs.result.now cs.ensures.ascending cs.ensures.inside (listed_absent s a c.requires.matrix listed cs.result.now cs.ensures.all) c.args.out.now c.requires.out_matrix c.requires.empty

pub keep_listed-requires-clause-inside : goal.keep_listed-requires-clause-inside
keep_listed-requires-clause-inside g c =
    let a = c.args.block.now in
    let cs = c.column_numbers-columns in
    let n = c.loop-n.n in
    subst (λ m. All (λ i. i < m) c.nth_column.result.0.now) (sym c.requires.table.places.count)
    (rows_inside g.S.Semiring.arithmetic a (get_or cs.result.now n 0) c.nth_column.result.0.now c.requires.matrix (nth_are a.entries cs.result.now c.nth_column.result.0.now n rows_of cs.ensures.numbers c.nth_column.ensures.rows))

pub keep_listed-requires-clause-table : goal.keep_listed-requires-clause-table
keep_listed-requires-clause-table g c =
    subst (λ m. IsRowTable m c.args.listed.now c.args.table.now) (sym c.requires.table.places.count) c.requires.table

pub push_column-requires-clause-values : goal.push_column-requires-clause-values
push_column-requires-clause-values g c =
    let a = c.args.block.now in
    let cs = c.column_numbers-columns in
    let n = c.loop-n.n in
    let k = c.in_ok-count.count in
    let rows_are = nth_are a.entries cs.result.now c.nth_column.result.0.now n rows_of cs.ensures.numbers c.nth_column.ensures.rows in
    let values_are = nth_are a.entries cs.result.now c.nth_column.result.1.now n values_of cs.ensures.numbers c.nth_column.ensures.values in
    rw c.deref-in-loop-n.ensures.value (listed_column g.S.Semiring.arithmetic a c.requires.matrix c.args.listed.now (get_or cs.result.now n 0) c.nth_column.result.0.now c.nth_column.result.1.now (take k c.keep_listed.new.kept.rows.items) (take k c.keep_listed.new.kept.values.items) rows_are values_are c.in_ok-count.ensures.listed).are_values

pub push_column-requires-clause-not_zero : goal.push_column-requires-clause-not_zero
push_column-requires-clause-not_zero g c =
    let a = c.args.block.now in
    let cs = c.column_numbers-columns in
    let n = c.loop-n.n in
    let k = c.in_ok-count.count in
    let rows_are = nth_are a.entries cs.result.now c.nth_column.result.0.now n rows_of cs.ensures.numbers c.nth_column.ensures.rows in
    let values_are = nth_are a.entries cs.result.now c.nth_column.result.1.now n values_of cs.ensures.numbers c.nth_column.ensures.values in
    rw c.deref-in-loop-n.ensures.value (listed_column g.S.Semiring.arithmetic a c.requires.matrix c.args.listed.now (get_or cs.result.now n 0) c.nth_column.result.0.now c.nth_column.result.1.now (take k c.keep_listed.new.kept.rows.items) (take k c.keep_listed.new.kept.values.items) rows_are values_are c.in_ok-count.ensures.listed).not_zero

pub loop-n-preserved : goal.loop-n-preserved
loop-n-preserved g c =
    let s = g.S.Semiring.arithmetic in
    let a = c.args.block.now in
    let is = c.requires.matrix in
    let listed = c.args.listed.now in
    let cs = c.column_numbers-columns in
    let n = c.loop-n.n in
    let j = get_or cs.result.now n 0 in
    let rows = c.nth_column.result.0.now in
    let values = c.nth_column.result.1.now in
    let ks = take c.in_ok-count.count c.keep_listed.new.kept.rows.items in
    let ws = take c.in_ok-count.count c.keep_listed.new.kept.values.items in
    let extent : Extent = record { rows = length listed; cols = a.shape.cols } in
    let rows_are = nth_are a.entries cs.result.now rows n rows_of cs.ensures.numbers c.nth_column.ensures.rows in
    let values_are = nth_are a.entries cs.result.now values n values_of cs.ensures.numbers c.nth_column.ensures.values in
    let before = before_column s extent (value_for s a is listed) cs.result.now n c.loop-n.out c.loop-n-test.true c.loop-n.invariant in
    let kept = c.in_ok-count.ensures.listed in
    let has = listed_has s a is listed j rows values ks ws rows_are values_are kept in
    let stored = rw (c.deref.ensures.value, c.deref-in-loop-n.ensures.value) at c.in_ok-push_column.ensures.ok in
    let adds = column_adds s j (λ i. value_for s a is listed i j) ks ws (listed_column s a is listed j rows values ks ws rows_are values_are kept) has c.loop-n.out c.push_column.new.self before stored c.in_ok-push_column.ensures.matrix in
    walk_more s extent (value_for s a is listed) cs.result.now cs.ensures.ascending cs.ensures.inside (listed_absent s a is listed cs.result.now cs.ensures.all) c.loop-n.out c.push_column.new.self n (λ i. value_for s a is listed i j) c.loop-n-test.true adds (λ i. refl) c.loop-n.invariant

pub returns : goal.returns
returns g c =
    let s = g.S.Semiring.arithmetic in
    let a = c.args.block.now in
    let is = c.requires.matrix in
    let listed = c.args.listed.now in
    let cs = c.column_numbers-columns in
    walk_all s (record { rows = length listed; cols = a.shape.cols }) (value_for s a is listed) cs.result.now cs.ensures.ascending cs.ensures.inside (listed_absent s a is listed cs.result.now cs.ensures.all) g.met.S.Semiring.is_semiring c.loop-n.out c.loop-n.n (let t = c.loop-n-test.false in omega arith) c.loop-n.invariant
    ∙ listed_are s a is listed
