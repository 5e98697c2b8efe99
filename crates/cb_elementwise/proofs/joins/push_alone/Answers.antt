use Rattle.std.proofs.Common.{◌<◌, get_or, sym, ap, subst}
use Rattle.std.specs.Prelude.{All}
use Rattle.cb_matrix.specs.Sparse.{Extent}
use Rattle.cb_dcsc.specs.Columns.{columns_with_entries}
use Rattle.cb_dcsc.proofs.Lookup.{rows_inside}
use Rattle.cb_product.proofs.OwnColumn.{own_sparse}
use Rattle.cb_elementwise.proofs.MatrixJoins.{column_within}
use Rattle.cb_elementwise.proofs.joins.push_alone.Goals as goal

pub push_column-requires-clause-rows : goal.push_column-requires-clause-rows
push_column-requires-clause-rows g c =
    let a = c.args.block.now in
    subst (λ m. All (λ i. i < m) c.nth_column.result.0.now) (sym (ap (λ (d : Extent). d.rows) c.requires.shape)) (rows_inside g.S.Semiring.arithmetic a (get_or (columns_with_entries a.entries) c.args.n 0) c.nth_column.result.0.now c.requires.matrix c.nth_column.ensures.rows)

pub push_column-requires-clause-column : goal.push_column-requires-clause-column
push_column-requires-clause-column g c = column_within g.S.Semiring.arithmetic c.args.block.now c.requires.matrix c.args.n c.requires.nth c.column_number.result c.column_number.ensures _ (ap (λ (d : Extent). d.cols) c.requires.shape)

pub push_column-requires-clause-not_zero : goal.push_column-requires-clause-not_zero
push_column-requires-clause-not_zero g c =
    let a = c.args.block.now in
    (own_sparse g.S.Semiring.arithmetic a c.requires.matrix (get_or (columns_with_entries a.entries) c.args.n 0) c.nth_column.result.0.now c.nth_column.result.1.now c.nth_column.ensures.rows c.nth_column.ensures.values).not_zero
