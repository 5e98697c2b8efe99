use Rattle.std.proofs.Common.{◌≡◌, length, ap, ◌∙◌}
use Rattle.std.proofs.lemmas.Result.{IfOk-weaker}
use Rattle.cb_matrix.specs.Sparse.{Extent}
use Rattle.cb_selections.specs.Extracted.{rows_by}
use Rattle.cb_selections.proofs.ListedRows.{all_listed}
use Rattle.cb_selections.proofs.extracts.extract_rows.Goals as goal

pub returns-then-are_all : goal.returns-then-are_all
returns-then-are_all g c =
    let s = g.S.Semiring.arithmetic in
    let a = c.args.block.now in
    let rows = c.args.rows.now in
    let all : length rows ≡ a.shape.rows = c.are_all.ensures.count c.if-are_all.true ∙ c.rows.ensures.value ∙ ap (λ (x : Extent). x.rows) c.shape.ensures.shape in
    IfOk-weaker c.try_clone.result (λ m. m ≡ a) (λ m. m ≡ rows_by s rows a)
    (λ m is. is ∙ all_listed s a c.shape.ensures.matrix rows g.met.S.Semiring.is_semiring all (c.are_all.ensures.order c.if-are_all.true)) c.try_clone.ensures
