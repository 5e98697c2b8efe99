use Rattle.std.proofs.Common.{◌≡◌, ap, ◌∙◌}
use Rattle.std.proofs.lemmas.Result.{IfOk-weaker}
use Rattle.cb_matrix.specs.Operations.{transposed}
use Rattle.cb_selections.specs.Extracted.{rows_by, columns_by}
use Rattle.cb_selections.proofs.ExtractedColumns.{rows_are}
use Rattle.cb_selections.proofs.extracts.turned_rows.Goals as goal

pub returns : goal.returns
returns g c =
    let s = g.S.Semiring.arithmetic in
    let a = c.args.block.now in
    let rows = c.args.rows.now in
    IfOk-weaker c.transpose-2.result (λ m. m ≡ transposed s c.in_ok-some_rows.some_rows) (λ m. m ≡ rows_by s rows a)
    (λ m is. is ∙ ap (transposed s) (c.in_ok-some_rows.ensures ∙ ap (columns_by s rows) c.in_ok-turned.ensures) ∙ rows_are s a rows c.requires.rows) c.transpose-2.ensures
