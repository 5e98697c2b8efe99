use Rattle.std.proofs.Common.{◌<◌, get_or, refl, sym, ap, subst, arith}
use Rattle.std.specs.Prelude.{All}
use Rattle.std.proofs.lemmas.List.Elements.{All-get_or, All-weaker}
use Rattle.cb_matrix.specs.Sparse.{Extent}
use Rattle.cb_dcsc.specs.Columns.{rows_of, values_of}
use Rattle.cb_dcsc.proofs.Lookup.{rows_inside}
use Rattle.cb_product.proofs.OwnColumn.{own_sparse}
use Rattle.cb_product.proofs.StoredColumn.{column_adds}
use Rattle.cb_product.proofs.ColumnsMade.{walk_none, walk_more, walk_all, before_column}
use Rattle.cb_elementwise.proofs.ReplacedColumns.{nth_are, value_for, replaced_absent, replaced_has, replaced_inside}
use Rattle.cb_elementwise.proofs.replacements.push_columns.Goals as goal

pub loop-n-init : goal.loop-n-init
loop-n-init g c =
    let s = g.S.Semiring.arithmetic in
    let a = c.args.block.now in
    let f = g.R.ValueRule.made c.args.rule.now in
    let cs = c.column_numbers-columns in
    walk_none s a.shape (value_for s a c.requires.matrix f) cs.result.now cs.ensures.ascending cs.ensures.inside (replaced_absent s a c.requires.matrix f cs.result.now cs.ensures.all) c.args.out.now c.requires.out_matrix c.requires.empty

pub replace_column-requires-clause-fits : goal.replace_column-requires-clause-fits
replace_column-requires-clause-fits g c =
    let s = g.S.Semiring.arithmetic in
    let a = c.args.block.now in
    let cs = c.column_numbers-columns in
    let n = c.loop-n.n in
    let j = get_or cs.result.now n 0 in
    let rows_are = nth_are a.entries cs.result.now c.nth_column.result.0.now n rows_of cs.ensures.numbers c.nth_column.ensures.rows in
    let inside : j < a.shape.cols = All-get_or (λ j. j < a.shape.cols) cs.result.now n 0 c.loop-n-test.true cs.ensures.inside in
    All-weaker (λ i. i < a.shape.rows) (λ i. g.R.ValueRule.fits c.args.rule.now i j) (λ i b. c.requires.fits i j b inside) c.nth_column.result.0.now (rows_inside s a j c.nth_column.result.0.now c.requires.matrix rows_are)

pub replace_column-requires-clause-entries : goal.replace_column-requires-clause-entries
replace_column-requires-clause-entries g c =
    let a = c.args.block.now in
    let cs = c.column_numbers-columns in
    let n = c.loop-n.n in
    own_sparse g.S.Semiring.arithmetic a c.requires.matrix (get_or cs.result.now n 0) _ _ (nth_are a.entries cs.result.now c.nth_column.result.0.now n rows_of cs.ensures.numbers c.nth_column.ensures.rows) (nth_are a.entries cs.result.now c.nth_column.result.1.now n values_of cs.ensures.numbers c.nth_column.ensures.values)

pub push_column-requires-clause-rows : goal.push_column-requires-clause-rows
push_column-requires-clause-rows g c =
    let s = g.S.Semiring.arithmetic in
    let a = c.args.block.now in
    let is = c.requires.matrix in
    let f = g.R.ValueRule.made c.args.rule.now in
    let cs = c.column_numbers-columns in
    let n = c.loop-n.n in
    let j = get_or cs.result.now n 0 in
    let rows = c.nth_column.result.0.now in
    let values = c.nth_column.result.1.now in
    let ks = c.replace_column.new.kept_rows.items in
    let ws = c.replace_column.new.kept_values.items in
    let rows_are = nth_are a.entries cs.result.now rows n rows_of cs.ensures.numbers c.nth_column.ensures.rows in
    let values_are = nth_are a.entries cs.result.now values n values_of cs.ensures.numbers c.nth_column.ensures.values in
    let inside = replaced_inside s a is f j rows values ks ws rows_are values_are c.in_ok-replace_column.ensures.values c.in_ok-replace_column.ensures.column in
    let shape = ap (λ (x : Extent). x.rows) c.loop-n.invariant.shape in
    subst (λ m. All (λ i. i < m) c.deref.result.now) (sym shape) (subst (All (λ i. i < a.shape.rows)) (sym c.deref.ensures.value) inside)

pub push_column-requires-clause-before : goal.push_column-requires-clause-before
push_column-requires-clause-before g c =
    let s = g.S.Semiring.arithmetic in
    let a = c.args.block.now in
    before_column s a.shape (value_for s a c.requires.matrix (g.R.ValueRule.made c.args.rule.now)) c.column_numbers-columns.result.now c.loop-n.n c.loop-n.out c.loop-n-test.true c.loop-n.invariant

pub loop-n-preserved : goal.loop-n-preserved
loop-n-preserved g c =
    let s = g.S.Semiring.arithmetic in
    let a = c.args.block.now in
    let is = c.requires.matrix in
    let f = g.R.ValueRule.made c.args.rule.now in
    let cs = c.column_numbers-columns in
    let n = c.loop-n.n in
    let j = get_or cs.result.now n 0 in
    let rows = c.nth_column.result.0.now in
    let values = c.nth_column.result.1.now in
    let ks = c.replace_column.new.kept_rows.items in
    let ws = c.replace_column.new.kept_values.items in
    let rows_are = nth_are a.entries cs.result.now rows n rows_of cs.ensures.numbers c.nth_column.ensures.rows in
    let values_are = nth_are a.entries cs.result.now values n values_of cs.ensures.numbers c.nth_column.ensures.values in
    let before = before_column s a.shape (value_for s a is f) cs.result.now n c.loop-n.out c.loop-n-test.true c.loop-n.invariant in
    let stored = rw (c.deref.ensures.value, c.deref-in-loop-n.ensures.value) at c.in_ok-push_column.ensures.ok in
    let has = replaced_has s a is f j rows values ks ws rows_are values_are c.in_ok-replace_column.ensures.values in
    let adds = column_adds s j (λ i. value_for s a is f i j) ks ws c.in_ok-replace_column.ensures.column has c.loop-n.out c.push_column.new.self before stored c.in_ok-push_column.ensures.matrix in
    walk_more s a.shape (value_for s a is f) cs.result.now cs.ensures.ascending cs.ensures.inside (replaced_absent s a is f cs.result.now cs.ensures.all) c.loop-n.out c.push_column.new.self n (λ i. value_for s a is f i j) c.loop-n-test.true adds (λ i. refl) c.loop-n.invariant

pub returns : goal.returns
returns g c =
    let s = g.S.Semiring.arithmetic in
    let a = c.args.block.now in
    let f = g.R.ValueRule.made c.args.rule.now in
    let cs = c.column_numbers-columns in
    walk_all s a.shape (value_for s a c.requires.matrix f) cs.result.now cs.ensures.ascending cs.ensures.inside (replaced_absent s a c.requires.matrix f cs.result.now cs.ensures.all) g.met.S.Semiring.is_semiring c.loop-n.out c.loop-n.n (let t = c.loop-n-test.false in omega arith) c.loop-n.invariant
