use Rattle.std.proofs.Common.{ℕ, ◌<◌, ap, arith, get_or, refl, subst, sym, ◌∙◌}
use Rattle.std.specs.Prelude.{All}
use Rattle.std.proofs.lemmas.Bool.{eqb-true}
use Rattle.cb_matrix.specs.Sparse.{Extent}
use Rattle.cb_dcsc.specs.Columns.{rows_of, values_of}
use Rattle.cb_dcsc.proofs.Lookup.{all_rows_inside, all_values, rows_inside, as_long}
use Rattle.cb_product.specs.SparseColumn.{AreEntries}
use Rattle.cb_product.proofs.ColumnsMade.{before_column}
use Rattle.cb_product.proofs.Gathered.{are_terms, of_column}
use Rattle.cb_product.proofs.ProductColumns.{sum_start, sum_more, sum_all, own_column}
use Rattle.cb_product.proofs.TermSums.{matrix_values, terms_value-end}
use Rattle.cb_product.proofs.OwnColumn.{own_sparse, own_alone}
use Rattle.cb_product.proofs.DenseRowSums.{sum_past}
use Rattle.cb_product.proofs.StoredColumn.{column_inside, column_adds}
use Rattle.cb_product.proofs.make_columns.Goals as goal

pub loop-column-init : goal.loop-column-init
loop-column-init g c =
    let s = g.S.Semiring.arithmetic in
    let r = c.requires in
    record {
      so_far = sum_start s g.met.S.Semiring.is_semiring c.args.accumulator.now c.args.left.now c.args.right.now c.shape-2.ensures.matrix c.shape-left_shape.ensures.matrix c.shape.ensures.matrix r.factors.agree c.args.columns.now r.factors.ascending r.factors.within r.accumulator_columns r.shape _ c.requires.matrix c.requires.empty;
      zeros = c.requires.zeros;
      told = c.requires.factors.told;
      gathered = c.requires.gathered;
    }

pub find-requires-clause-told : goal.find-requires-clause-told
find-requires-clause-told g c = c.loop-column.invariant.told

pub find-requires-clause-values : goal.find-requires-clause-values
find-requires-clause-values g c = all_values g.S.Semiring.arithmetic c.args.right.now _ c.shape.ensures.matrix c.values-values.ensures

pub find-requires-clause-inside : goal.find-requires-clause-inside
find-requires-clause-inside g c =
    let rows = all_rows_inside g.S.Semiring.arithmetic c.args.right.now _ c.shape.ensures.matrix c.row_numbers-rows.ensures in
    subst (λ n. All (λ i. i < n) c.row_numbers-rows.result.now) (sym c.requires.factors.agree) rows

pub find-requires-clause-gathered : goal.find-requires-clause-gathered
find-requires-clause-gathered g c = rw (c.row_numbers-rows.ensures, c.values-values.ensures) c.loop-column.invariant.gathered

pub make-requires-clause-own : goal.make-requires-clause-own
make-requires-clause-own g c =
    let s = g.S.Semiring.arithmetic in
    let own = c.of_next in
    let shape = ap (λ (e : Extent). e.rows) c.requires.shape in
    record {
      same_length = as_long c.args.accumulator.now.entries _ _ _ own.ensures.rows own.ensures.values;
      ascending = own.ensures.ascending;
      inside = subst (λ n. All (λ i. i < n) own.result.0.now) shape (rows_inside s c.args.accumulator.now _ _ c.shape-2.ensures.matrix own.ensures.rows);
      are_values = own.ensures.are_values;
    }

pub push_column-requires-clause-lengths : goal.push_column-requires-clause-lengths
push_column-requires-clause-lengths g c =
    let own = c.of_next in
    as_long c.args.accumulator.now.entries _ _ _ own.ensures.rows own.ensures.values

pub push_column-requires-clause-rows : goal.push_column-requires-clause-rows
push_column-requires-clause-rows g c =
    let own = c.of_next in
    let rows = ap (λ (e : Extent). e.rows) (c.loop-column.invariant.so_far.shape ∙ sym c.requires.shape) in
    subst (λ n. All (λ i. i < n) own.result.0.now) (sym rows) (rows_inside g.S.Semiring.arithmetic c.args.accumulator.now _ _ c.shape-2.ensures.matrix own.ensures.rows)

pub push_column-requires-clause-before : goal.push_column-requires-clause-before
push_column-requires-clause-before g c =
    before_column g.S.Semiring.arithmetic _ _ c.args.columns.now c.loop-column.column-index c.loop-column.out c.loop-column-test.true c.loop-column.invariant.so_far

pub push_column-requires-clause-not_zero : goal.push_column-requires-clause-not_zero
push_column-requires-clause-not_zero g c =
    let own = c.of_next in
    let column = own_sparse g.S.Semiring.arithmetic c.args.accumulator.now c.shape-2.ensures.matrix _ _ _ own.ensures.rows own.ensures.values in
    column.not_zero

pub loop-column-preserved-then-is_empty : goal.loop-column-preserved-then-is_empty
loop-column-preserved-then-is_empty g c =
    let s = g.S.Semiring.arithmetic in
    let laws = g.met.S.Semiring.is_semiring in
    let r = c.requires in
    let left = c.args.left.now in
    let own = c.of_next in
    let has = rw (c.row_numbers-rows.ensures, c.values-values.ensures) at c.in_ok-begin.ensures.terms in
    let sums = of_column s laws c.args.left.now c.args.right.now c.shape.ensures.matrix c.find.new.self _ _ _ _ c.range_of_next-from.ensures.entries has in
    let before = before_column s _ _ c.args.columns.now c.loop-column.column-index c.loop-column.out c.loop-column-test.true c.loop-column.invariant.so_far in
    let column = own_sparse s c.args.accumulator.now c.shape-2.ensures.matrix _ _ _ own.ensures.rows own.ensures.values in
    let length_is = rw c.terms.ensures at (eqb-true _ 0 (sym c.is_empty.ensures ∙ c.if-is_empty.true)) in
    let none = λ (i : ℕ). sym (sums i) ∙ terms_value-end s laws (rows_of left.entries) (values_of left.entries) (matrix_values s laws left c.shape-left_shape.ensures.matrix) i 0 _ (omega (arith, length_is)) in
    let alone = own_alone s c.args.accumulator.now c.shape-2.ensures.matrix _ _ _ own.ensures.rows own.ensures.values laws _ none in
    let adds = column_adds s _ _ _ _ column alone c.loop-column.out _ before c.in_ok-push_column.ensures.ok c.in_ok-push_column.ensures.matrix in
    record {
      so_far = sum_more s laws c.args.accumulator.now left c.args.right.now c.shape-2.ensures.matrix c.shape-left_shape.ensures.matrix c.shape.ensures.matrix r.factors.agree c.args.columns.now r.factors.ascending r.factors.within r.accumulator_columns _ _ c.loop-column.column-index _ c.loop-column-test.true c.loop-column.invariant.so_far adds (λ i. refl);
      zeros = c.loop-column.invariant.zeros;
      told = c.loop-column.invariant.told;
      gathered = rw (sym c.row_numbers-rows.ensures, sym c.values-values.ensures) c.in_ok-begin.ensures.gathered;
    }

pub push_column-requires-in-loop-column-clause-rows : goal.push_column-requires-in-loop-column-clause-rows
push_column-requires-in-loop-column-clause-rows g c =
    let s = g.S.Semiring.arithmetic in
    let laws = g.met.S.Semiring.is_semiring in
    let left = c.args.left.now in
    let own = c.of_next in
    let rows = ap (λ (e : Extent). e.rows) c.requires.shape in
    let shape = ap (λ (e : Extent). e.rows) c.loop-column.invariant.so_far.shape in
    let own_entries : AreEntries s left.shape.rows own.result.0.now own.result.1.now = record {
      same_length = as_long c.args.accumulator.now.entries _ _ _ own.ensures.rows own.ensures.values;
      ascending = own.ensures.ascending;
      inside = subst (λ n. All (λ i. i < n) own.result.0.now) rows (rows_inside s c.args.accumulator.now _ _ c.shape-2.ensures.matrix own.ensures.rows);
      are_values = own.ensures.are_values;
    } in
    let column = rw c.terms.ensures at c.in_ok-make.ensures.column in
    let gathered = rw (c.row_numbers-rows.ensures, c.values-values.ensures) at c.in_ok-begin.ensures.gathered in
    rw (c.entries.ensures.rows, shape) (column_inside s 0 _ _ _ c.entries.ensures.column column left.shape.rows (λ i l. sum_past s laws left c.shape-left_shape.ensures.matrix _ _ own_entries _ (are_terms s laws left c.args.right.now c.shape.ensures.matrix c.find.new.self gathered _ _) i l))

pub push_column-requires-in-loop-column-clause-before : goal.push_column-requires-in-loop-column-clause-before
push_column-requires-in-loop-column-clause-before g c =
    before_column g.S.Semiring.arithmetic _ _ c.args.columns.now c.loop-column.column-index c.loop-column.out c.loop-column-test.true c.loop-column.invariant.so_far

pub loop-column-preserved : goal.loop-column-preserved
loop-column-preserved g c =
    let s = g.S.Semiring.arithmetic in
    let laws = g.met.S.Semiring.is_semiring in
    let r = c.requires in
    let has = rw (c.row_numbers-rows.ensures, c.values-values.ensures) at c.in_ok-begin.ensures.terms in
    let sums = of_column s laws c.args.left.now c.args.right.now c.shape.ensures.matrix c.find.new.self _ _ _ _ c.range_of_next-from.ensures.entries has in
    let own = own_column s c.args.accumulator.now _ _ _ c.of_next.ensures.rows c.of_next.ensures.values in
    let before = before_column s _ _ c.args.columns.now c.loop-column.column-index c.loop-column.out c.loop-column-test.true c.loop-column.invariant.so_far in
    let stored = rw (c.entries.ensures.rows, c.entries.ensures.values) at c.in_ok-push_column-2.ensures.ok in
    let column = rw c.terms.ensures at c.in_ok-make.ensures.column in
    let adds = column_adds s _ _ _ _ c.entries.ensures.column column c.loop-column.out _ before stored c.in_ok-push_column-2.ensures.matrix in
    record {
      so_far = sum_more s laws c.args.accumulator.now c.args.left.now c.args.right.now c.shape-2.ensures.matrix c.shape-left_shape.ensures.matrix c.shape.ensures.matrix r.factors.agree c.args.columns.now r.factors.ascending r.factors.within r.accumulator_columns _ _ c.loop-column.column-index _ c.loop-column-test.true c.loop-column.invariant.so_far adds (λ i. λ t. s.add (own i t) (sums i t));
      zeros = c.in_ok-make.ensures.zeros;
      told = c.loop-column.invariant.told;
      gathered = rw (sym c.row_numbers-rows.ensures, sym c.values-values.ensures) c.in_ok-begin.ensures.gathered;
    }

pub returns : goal.returns
returns g c =
    let s = g.S.Semiring.arithmetic in
    let r = c.requires in
    sum_all s g.met.S.Semiring.is_semiring c.args.accumulator.now c.args.left.now c.args.right.now c.shape-2.ensures.matrix c.shape-left_shape.ensures.matrix c.shape.ensures.matrix r.factors.agree c.args.columns.now r.factors.ascending r.factors.within r.accumulator_columns c.loop-column.out c.loop-column.column-index r.shape c.loop-column-test.false c.loop-column.invariant.so_far

pub push_column-requires-clause-ascending : goal.push_column-requires-clause-ascending
push_column-requires-clause-ascending g c = c.of_next.ensures.ascending

pub push_column-requires-clause-column : goal.push_column-requires-clause-column
push_column-requires-clause-column g c =
    let cols = ap (λ (e : Extent). e.cols) c.loop-column.invariant.so_far.shape in
    subst (λ n. get_or c.args.columns.now c.loop-column.column-index 0 < n) (sym cols) (c.requires.factors.within c.loop-column.column-index 0 c.loop-column-test.true)

pub push_column-requires-clause-values : goal.push_column-requires-clause-values
push_column-requires-clause-values g c = c.of_next.ensures.are_values

pub make-requires-clause-left : goal.make-requires-clause-left
make-requires-clause-left g c = c.shape-left_shape.ensures.matrix

pub make-requires-clause-terms : goal.make-requires-clause-terms
make-requires-clause-terms g c =
    let s = g.S.Semiring.arithmetic in
    let gathered = rw (c.row_numbers-rows.ensures, c.values-values.ensures) at c.in_ok-begin.ensures.gathered in
    rw c.terms.ensures (are_terms s g.met.S.Semiring.is_semiring c.args.left.now c.args.right.now c.shape.ensures.matrix c.find.new.self gathered _ _)

pub make-requires-clause-zeros : goal.make-requires-clause-zeros
make-requires-clause-zeros g c = c.loop-column.invariant.zeros

pub push_column-requires-in-loop-column-clause-lengths : goal.push_column-requires-in-loop-column-clause-lengths
push_column-requires-in-loop-column-clause-lengths g c = rw (c.entries.ensures.rows, c.entries.ensures.values) c.entries.ensures.column.same_length

pub push_column-requires-in-loop-column-clause-ascending : goal.push_column-requires-in-loop-column-clause-ascending
push_column-requires-in-loop-column-clause-ascending g c = rw c.entries.ensures.rows c.entries.ensures.column.ascending

pub push_column-requires-in-loop-column-clause-column : goal.push_column-requires-in-loop-column-clause-column
push_column-requires-in-loop-column-clause-column g c =
    let cols = ap (λ (e : Extent). e.cols) c.loop-column.invariant.so_far.shape in
    subst (λ n. get_or c.args.columns.now c.loop-column.column-index 0 < n) (sym cols) (c.requires.factors.within c.loop-column.column-index 0 c.loop-column-test.true)

pub push_column-requires-in-loop-column-clause-values : goal.push_column-requires-in-loop-column-clause-values
push_column-requires-in-loop-column-clause-values g c = rw c.entries.ensures.values c.entries.ensures.column.are_values

pub push_column-requires-in-loop-column-clause-not_zero : goal.push_column-requires-in-loop-column-clause-not_zero
push_column-requires-in-loop-column-clause-not_zero g c = rw c.entries.ensures.values c.entries.ensures.column.not_zero
