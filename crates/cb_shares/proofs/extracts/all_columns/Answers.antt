use Rattle.std.proofs.Common.{◌≡◌, None, ap, subst, ◌∙◌}
use Rattle.std.specs.Prelude.{IfOk, option_copied}
use Rattle.cb_matrix.specs.Sparse.{Sparse}
use Rattle.cb_selections.specs.Extracted.{extracted_by}
use Rattle.cb_shares.proofs.ListedColumns.{all_panel}
use Rattle.cb_shares.proofs.extracts.all_columns.Goals as goal

pub returns : goal.returns
returns g c =
    let s = g.S.Semiring.arithmetic in
    let here = c.block.ensures ∙ c.in_ok-part.ensures.columns in
    let law = ap (λ (x : Sparse). extracted_by s (option_copied c.args.rows) None x) here ∙ all_panel s g.met.S.Semiring.is_semiring c.args.matrix.now c.in_ok-part.ensures.matrix (option_copied c.args.rows) c.args.first c.args.end in
    subst (λ (x : Sparse). IfOk c.extract.result (λ t. t ≡ x)) law c.extract.ensures
