use Rattle.std.proofs.Common.{◌<◌, length, get_or, refl, sym, ap, subst, arith}
use Rattle.std.specs.Prelude.{All}
use Rattle.cb_matrix.specs.Sparse.{Extent, at}
use Rattle.cb_dcsc.proofs.Lookup.{rows_inside}
use Rattle.cb_product.proofs.OwnColumn.{own_sparse}
use Rattle.cb_product.proofs.ProductColumns.{own_column}
use Rattle.cb_product.proofs.StoredColumn.{column_adds}
use Rattle.cb_selections.proofs.RangedColumns.{ranged_none, ranged_more, ranged_all}
use Rattle.cb_selections.proofs.extracts.push_columns.Goals as goal

pub loop-n-init : goal.loop-n-init
loop-n-init g c =
    let s = g.S.Semiring.arithmetic in
    let a = c.args.block.now in
    let columns = c.args.columns.now in
    ranged_none s (record { rows = a.shape.rows; cols = length columns }) (λ i j. at s a i (get_or columns j 0)) c.args.first c.args.end c.args.out.now c.requires.out_matrix c.requires.empty

pub push_column-requires-clause-rows : goal.push_column-requires-clause-rows
push_column-requires-clause-rows g c =
    let a = c.args.block.now in
    let rows = c.column_at.result.0.now in
    let shape = ap (λ (x : Extent). x.rows) c.loop-n.invariant.shape in
    subst (λ m. All (λ i. i < m) rows) (sym shape) (rows_inside g.S.Semiring.arithmetic a (get_or c.args.columns.now c.loop-n.n 0) rows c.requires.matrix c.column_at.ensures.rows)

pub push_column-requires-clause-not_zero : goal.push_column-requires-clause-not_zero
push_column-requires-clause-not_zero g c =
    (own_sparse g.S.Semiring.arithmetic c.args.block.now c.requires.matrix (get_or c.args.columns.now c.loop-n.n 0) c.column_at.result.0.now c.column_at.result.1.now c.column_at.ensures.rows c.column_at.ensures.values).not_zero

pub loop-n-preserved : goal.loop-n-preserved
loop-n-preserved g c =
    let s = g.S.Semiring.arithmetic in
    let a = c.args.block.now in
    let columns = c.args.columns.now in
    let n = c.loop-n.n in
    let j = get_or columns n 0 in
    let rows = c.column_at.result.0.now in
    let values = c.column_at.result.1.now in
    let e = c.column_at.ensures in
    let column = own_sparse s a c.requires.matrix j rows values e.rows e.values in
    let adds = column_adds s n (λ i. at s a i j) rows values column (own_column s a j rows values e.rows e.values) c.loop-n.out c.push_column.new.self c.loop-n.invariant.before c.in_ok-push_column.ensures.ok c.in_ok-push_column.ensures.matrix in
    ranged_more s (record { rows = a.shape.rows; cols = length columns }) (λ i k. at s a i (get_or columns k 0)) c.args.first c.args.end c.loop-n.out c.push_column.new.self n (λ i. at s a i j) (omega arith) c.loop-n-test.true adds (λ i. refl) c.loop-n.invariant

pub returns : goal.returns
returns g c =
    let s = g.S.Semiring.arithmetic in
    let a = c.args.block.now in
    let columns = c.args.columns.now in
    let t = c.loop-n-test.false in
    let u = c.loop-n.auto.n-end in
    ranged_all s (record { rows = a.shape.rows; cols = length columns }) (λ i k. at s a i (get_or columns k 0)) c.args.first c.args.end g.met.S.Semiring.is_semiring c.loop-n.out c.loop-n.n (omega arith) (omega arith) c.loop-n.invariant
