use Rattle.std.proofs.Common.{◌≡◌, ◌<◌, get_or, ap, subst, sym, ◌∙◌}
use Rattle.std.specs.Prelude.{All, ◌==◌, count_by}
use Rattle.std.proofs.lemmas.Result.{IfOk-weaker}
use Rattle.cb_semirings.specs.Tables.{plus_times}
use Rattle.cb_matrix.specs.Sparse.{Sparse, Extent}
use Rattle.cb_matrix.specs.Values.{matrix_of}
use Rattle.cb_dcsc.proofs.Lookup.{all_rows_inside}
use Rattle.cb_graphs.specs.Degrees.{row_degrees}
use Rattle.cb_graphs.proofs.RowCounts.{counts_are}
use Rattle.cb_graphs.proofs.degrees.counted_row_degrees.Goals as goal

pub row_counts-requires : goal.row_counts-requires
row_counts-requires g c =
    let rows : c.rows-2.result ≡ c.args.block.now.shape.rows =
    c.rows-2.ensures.value ∙ ap (λ (x : Extent). x.rows) c.one_column-shape.ensures ∙ c.rows.ensures.value ∙ ap (λ (x : Extent). x.rows) c.shape.ensures.shape in
    subst (λ n. All (λ r. r < n) c.row_numbers.result.now) (sym rows) (all_rows_inside g.S.Semiring.arithmetic c.args.block.now c.row_numbers.result.now c.shape.ensures.matrix c.row_numbers.ensures)

pub returns : goal.returns
returns g c =
    let s = g.S.Semiring.arithmetic in
    let a = c.args.block.now in
    let counts = c.deref.result.now in
    let height : c.rows.result ≡ a.shape.rows = c.rows.ensures.value ∙ ap (λ (x : Extent). x.rows) c.shape.ensures.shape in
    let rows : c.rows-2.result ≡ a.shape.rows = c.rows-2.ensures.value ∙ ap (λ (x : Extent). x.rows) c.one_column-shape.ensures ∙ height in
    let shape : c.one_column-shape.result ≡ record { rows = a.shape.rows; cols = 1 } = c.one_column-shape.ensures ∙ ap (λ n. let y : Extent = record { rows = n; cols = 1 } in y) height in
    IfOk-weaker c.column_of_list.result (λ (m : Sparse). m ≡ matrix_of plus_times c.one_column-shape.result (λ i _. get_or counts i 0)) (λ (m : Sparse). m ≡ row_degrees s a)
    (λ m is. counts_are s a m c.one_column-shape.result counts c.shape.ensures.matrix shape
    (λ i l. ap (λ xs. get_or xs i 0) c.deref.ensures.value ∙ c.in_ok-counts.ensures.counts i (subst (λ n. i < n) (sym rows) l) ∙ ap (λ xs. count_by (λ r. r == i) xs) c.row_numbers.ensures)
    is) c.column_of_list.ensures
