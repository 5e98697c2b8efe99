use Rattle.std.proofs.Common.{◌≡◌, length, ap, ◌∙◌}
use Rattle.std.proofs.lemmas.Result.{IfOk-weaker}
use Rattle.cb_matrix.specs.Sparse.{Extent}
use Rattle.cb_selections.specs.Extracted.{extracted_between, columns_between, rows_by}
use Rattle.cb_selections.proofs.ExtractedColumns.{between_is, between_rows}
use Rattle.cb_selections.proofs.extracts.both_between.Goals as goal

pub returns-then-are_all : goal.returns-then-are_all
returns-then-are_all g c =
    let s = g.S.Semiring.arithmetic in
    let a = c.args.block.now in
    let rows = c.args.rows.now in
    let cols = c.args.cols.now in
    let all : length rows ≡ a.shape.rows = c.are_all.ensures.count c.if-are_all.true ∙ c.rows.ensures.value ∙ ap (λ (x : Extent). x.rows) c.shape.ensures.shape in
    IfOk-weaker c.columns_between.result (λ m. m ≡ columns_between s cols c.args.first c.args.end a) (λ m. m ≡ extracted_between s rows cols c.args.first c.args.end a)
    (λ m is. is ∙ between_rows s a rows cols c.args.first c.args.end all (c.are_all.ensures.order c.if-are_all.true)) c.columns_between.ensures

pub returns : goal.returns
returns g c =
    let s = g.S.Semiring.arithmetic in
    let a = c.args.block.now in
    let rows = c.args.rows.now in
    let cols = c.args.cols.now in
    IfOk-weaker c.turned_rows.result (λ m. m ≡ rows_by s rows c.in_ok-some.some) (λ m. m ≡ extracted_between s rows cols c.args.first c.args.end a)
    (λ m is. is ∙ ap (rows_by s rows) c.in_ok-some.ensures ∙ between_is s a rows cols c.args.first c.args.end c.requires.rows) c.turned_rows.ensures
