use Rattle.std.proofs.Common.{◌≡◌, None, subst, ◌∙◌}
use Rattle.std.specs.Prelude.{IfOk}
use Rattle.cb_matrix.specs.Sparse.{Sparse}
use Rattle.cb_selections.specs.Updates.{updated}
use Rattle.cb_shares.specs.Shares.{columns_from}
use Rattle.cb_shares.proofs.ByColumns.{updated_columns}
use Rattle.cb_shares.proofs.updates.columns_updated.Goals as goal

pub returns : goal.returns
returns g c =
    let s = g.S.Semiring.arithmetic in
    let how = c.args.how in
    let old = c.block.ensures ∙ c.in_ok-before.ensures.columns in
    let new = c.block-2.ensures ∙ c.in_ok-after.ensures.columns in
    let law = updated_columns s g.met.S.Semiring.is_semiring (columns_from c.args.first c.args.end) c.args.old.now c.in_ok-before.ensures.matrix c.args.new.now c.in_ok-after.ensures.matrix how in
    subst (λ (m : Sparse). IfOk c.update_all.result (λ n. n ≡ m)) ((λ i. updated s how None (old i) (new i)) ∙ law) c.update_all.ensures
