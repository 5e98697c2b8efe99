use Rattle.std.proofs.Common.{◌≡◌, length, sym, ◌∙◌}
use Rattle.std.specs.Prelude.{option_copied}
use Rattle.std.proofs.lemmas.Result.{IfOk-weaker}
use Rattle.cb_selections.specs.Extracted.{extracted_between, extracted_by, rows_by, columns_by}
use Rattle.cb_selections.proofs.ExtractedColumns.{both_whole, columns_of_all, rows_of_all}
use Rattle.cb_selections.proofs.extracts.extract.Goals as goal

pub returns-in-Some-None : goal.returns-in-Some-None
returns-in-Some-None g c =
    let s = g.S.Semiring.arithmetic in
    let a = c.args.block.now in
    let rows = c.in-Some-None.rows.now in
    IfOk-weaker c.extract_rows.result (λ m. m ≡ rows_by s rows a) (λ m. m ≡ extracted_by s (option_copied c.args.rows) (option_copied c.args.cols) a)
    (λ m is. is ∙ rows_of_all s a rows ∙ sym (λ i. extracted_by s (option_copied (c.in-Some-None.is-0 i)) (option_copied (c.in-Some-None.is-1 i)) a)) c.extract_rows.ensures

pub returns-in-None-Some : goal.returns-in-None-Some
returns-in-None-Some g c =
    let s = g.S.Semiring.arithmetic in
    let a = c.args.block.now in
    let cols = c.in-None-Some.cols.now in
    IfOk-weaker c.extract_columns.result (λ m. m ≡ columns_by s cols a) (λ m. m ≡ extracted_by s (option_copied c.args.rows) (option_copied c.args.cols) a)
    (λ m is. is ∙ columns_of_all s a cols ∙ sym (λ i. extracted_by s (option_copied (c.in-None-Some.is-0 i)) (option_copied (c.in-None-Some.is-1 i)) a)) c.extract_columns.ensures

pub returns-in-Some-Some : goal.returns-in-Some-Some
returns-in-Some-Some g c =
    let s = g.S.Semiring.arithmetic in
    let a = c.args.block.now in
    let rows = c.in-Some-Some.rows.now in
    let cols = c.in-Some-Some.cols.now in
    IfOk-weaker c.both_between.result (λ m. m ≡ extracted_between s rows cols 0 (length cols) a) (λ m. m ≡ extracted_by s (option_copied c.args.rows) (option_copied c.args.cols) a)
    (λ m is. is ∙ both_whole s a rows cols ∙ sym (λ i. extracted_by s (option_copied (c.in-Some-Some.is-0 i)) (option_copied (c.in-Some-Some.is-1 i)) a)) c.both_between.ensures
