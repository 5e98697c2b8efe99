use Rattle.std.proofs.Common.{◌≡◌, ap, subst, ◌∙◌}
use Rattle.std.specs.Prelude.{IfOk, option_copied}
use Rattle.cb_matrix.specs.Sparse.{Sparse}
use Rattle.cb_selections.specs.Extracted.{extracted_between, listed_or_all}
use Rattle.cb_shares.proofs.ListedColumns.{listed_panel}
use Rattle.cb_shares.proofs.extracts.listed_columns.Goals as goal

pub returns : goal.returns
returns g c =
    let s = g.S.Semiring.arithmetic in
    let m = c.args.matrix.now in
    let cols = c.args.cols.now in
    let low = c.min-low.result in
    let high = c.min-high.result in
    let here = c.block.ensures ∙ c.in_ok-whole.ensures in
    let law = ap (λ (x : Sparse). extracted_between s (listed_or_all (option_copied c.args.rows) x.shape.rows) cols low high x) here
    ∙ listed_panel s g.met.S.Semiring.is_semiring m c.shape.ensures.matrix (listed_or_all (option_copied c.args.rows) m.shape.rows) cols c.args.first c.args.end low high c.min-high.ensures c.min-low.ensures in
    subst (λ (x : Sparse). IfOk c.extract_between.result (λ t. t ≡ x)) law c.extract_between.ensures
