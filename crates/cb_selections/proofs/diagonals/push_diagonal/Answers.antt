use Rattle.std.proofs.Common.{◌≡◌, ◌∙◌, get_or, sym, ap, subst, arith}
use Rattle.cb_semirings.specs.Arithmetic.{IsValue}
use Rattle.cb_matrix.specs.Sparse.{Extent, at}
use Rattle.cb_matrix.proofs.Totals.{value_at-value}
use Rattle.cb_dcsc.specs.Columns.{rows_of, values_of}
use Rattle.cb_dcsc.proofs.Lookup.{as_long}
use Rattle.cb_product.proofs.ProductColumns.{own_column}
use Rattle.cb_elementwise.proofs.ReplacedColumns.{nth_are}
use Rattle.cb_selections.proofs.DiagonalColumn.{diagonal_none, diagonal_inside, diagonal_more, diagonal_all}
use Rattle.cb_selections.proofs.diagonals.push_diagonal.Goals as goal

pub loop-n-init : goal.loop-n-init
loop-n-init g c = diagonal_none g.S.Semiring.arithmetic c.args.block.now c.requires.matrix c.column_numbers-columns.result.now c.column_numbers-columns.ensures.ascending c.column_numbers-columns.ensures.inside c.column_numbers-columns.ensures.all _ c.requires.out_matrix c.requires.empty

pub returns : goal.returns
returns g c = diagonal_all g.S.Semiring.arithmetic c.args.block.now c.requires.matrix c.column_numbers-columns.result.now c.column_numbers-columns.ensures.ascending c.column_numbers-columns.ensures.inside c.column_numbers-columns.ensures.all g.met.S.Semiring.is_semiring _ c.loop-n.n (let f = c.loop-n-test.false in omega arith) c.loop-n.invariant

pub value_at-value-requires-clause-lengths : goal.value_at-value-requires-clause-lengths
value_at-value-requires-clause-lengths g c = as_long c.args.block.now.entries _ _ _ c.nth_column.ensures.rows c.nth_column.ensures.values

pub push_value-requires-clause-column : goal.push_value-requires-clause-column
push_value-requires-clause-column g c = ap (λ (x : Extent). x.cols) c.loop-n.invariant.shape

pub push_value-requires-clause-inside : goal.push_value-requires-clause-inside
push_value-requires-clause-inside g c =
    let s = g.S.Semiring.arithmetic in
    let a = c.args.block.now in
    let is = c.requires.matrix in
    let cs = c.column_numbers-columns in
    let n = c.loop-n.n in
    let j = get_or cs.result.now n 0 in
    let rows_are = nth_are a.entries cs.result.now c.nth_column.result.0.now n rows_of cs.ensures.numbers c.nth_column.ensures.rows in
    let values_are = nth_are a.entries cs.result.now c.nth_column.result.1.now n values_of cs.ensures.numbers c.nth_column.ensures.values in
    let value_is : c.value_at-value.result ≡ at s a j j = c.value_at-value.ensures ∙ own_column s a j c.nth_column.result.0.now c.nth_column.result.1.now rows_are values_are j in
    diagonal_inside s a is cs.result.now cs.ensures.ascending cs.ensures.inside cs.ensures.all n c.loop-n-test.true c.loop-n.out c.loop-n.invariant c.value_at-value.result value_is

pub push_value-requires-clause-value : goal.push_value-requires-clause-value
push_value-requires-clause-value g c =
    let s = g.S.Semiring.arithmetic in
    let a = c.args.block.now in
    let is = c.requires.matrix in
    let cs = c.column_numbers-columns in
    let n = c.loop-n.n in
    let j = get_or cs.result.now n 0 in
    let rows_are = nth_are a.entries cs.result.now c.nth_column.result.0.now n rows_of cs.ensures.numbers c.nth_column.ensures.rows in
    let values_are = nth_are a.entries cs.result.now c.nth_column.result.1.now n values_of cs.ensures.numbers c.nth_column.ensures.values in
    let value_is : c.value_at-value.result ≡ at s a j j = c.value_at-value.ensures ∙ own_column s a j c.nth_column.result.0.now c.nth_column.result.1.now rows_are values_are j in
    subst (IsValue s) (sym value_is) (value_at-value s g.met.S.Semiring.is_semiring a.entries j j is.values)

pub loop-n-preserved : goal.loop-n-preserved
loop-n-preserved g c =
    let s = g.S.Semiring.arithmetic in
    let a = c.args.block.now in
    let is = c.requires.matrix in
    let cs = c.column_numbers-columns in
    let n = c.loop-n.n in
    let j = get_or cs.result.now n 0 in
    let rows_are = nth_are a.entries cs.result.now c.nth_column.result.0.now n rows_of cs.ensures.numbers c.nth_column.ensures.rows in
    let values_are = nth_are a.entries cs.result.now c.nth_column.result.1.now n values_of cs.ensures.numbers c.nth_column.ensures.values in
    let value_is : c.value_at-value.result ≡ at s a j j = c.value_at-value.ensures ∙ own_column s a j c.nth_column.result.0.now c.nth_column.result.1.now rows_are values_are j in
    diagonal_more s a is cs.result.now cs.ensures.ascending cs.ensures.inside cs.ensures.all n c.loop-n-test.true c.loop-n.out c.loop-n.invariant c.push_value.new.out c.value_at-value.result value_is c.in_ok-push_value.ensures.entries c.in_ok-push_value.ensures.matrix
