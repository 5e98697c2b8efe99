use Rattle.std.proofs.Common.{◌≡◌, sym, ◌∙◌}
use Rattle.std.specs.Prelude.{option_copied}
use Rattle.std.proofs.lemmas.Result.{IfOk-weaker}
use Rattle.cb_selections.specs.Extracted.{columns_between, extracted_between, listed_or_all}
use Rattle.cb_selections.proofs.ExtractedColumns.{between_all}
use Rattle.cb_selections.proofs.extracts.extract_between.Goals as goal

pub returns-in-None : goal.returns-in-None
returns-in-None g c =
    let s = g.S.Semiring.arithmetic in
    let a = c.args.block.now in
    let cols = c.args.cols.now in
    IfOk-weaker c.columns_between.result (λ m. m ≡ columns_between s cols c.args.first c.args.end a) (λ m. m ≡ extracted_between s (listed_or_all (option_copied c.args.rows) a.shape.rows) cols c.args.first c.args.end a)
    (λ m is. is ∙ between_all s a cols c.args.first c.args.end ∙ sym (λ i. extracted_between s (listed_or_all (option_copied (c.in-None.is i)) a.shape.rows) cols c.args.first c.args.end a)) c.columns_between.ensures
