use Rattle.std.proofs.Common.{◌≡◌, length, ◌∙◌}
use Rattle.std.proofs.lemmas.Result.{IfOk-weaker}
use Rattle.cb_selections.specs.Extracted.{columns_between, columns_by}
use Rattle.cb_selections.proofs.ExtractedColumns.{columns_whole}
use Rattle.cb_selections.proofs.extracts.extract_columns.Goals as goal

pub returns : goal.returns
returns g c =
    let s = g.S.Semiring.arithmetic in
    let a = c.args.block.now in
    let cols = c.args.columns.now in
    IfOk-weaker c.columns_between.result (λ m. m ≡ columns_between s cols 0 (length cols) a) (λ m. m ≡ columns_by s cols a) (λ m is. is ∙ columns_whole s a cols) c.columns_between.ensures
