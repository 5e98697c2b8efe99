use Rattle.std.proofs.Common.{cond, sym, ap, ◌∙◌}
use Rattle.std.proofs.lemmas.Bool.{eqb-true}
use Rattle.std.proofs.lemmas.Result.{on_ok_weaker}
use Rattle.cb_product.specs.InColumns.{is_among}
use Rattle.cb_product.specs.Terms.{terms_at}
use Rattle.cb_product.proofs.Outside.{outside_none, terms_alone}
use Rattle.cb_product.proofs.workspace.Workspace.make_outside.Goals as goal

pub returns-then-is_empty-clause-column : goal.returns-then-is_empty-clause-column
returns-then-is_empty-clause-column g c =
    let s = g.S.Semiring.arithmetic in
    let a = c.args.left.now in
    let ts = c.args.terms.now in
    let none = eqb-true _ 0 (sym c.is_empty.ensures ∙ c.if-is_empty.true) in
    λ i. c.in_ok-make.ensures.column i ∙ terms_alone s g.met.S.Semiring.is_semiring a c.requires.left ts c.requires.terms i ∙ sym (outside_none s.zero c.args.excluded.now (λ k. terms_at s a k ts) i none)

pub returns-clause-column : goal.returns-clause-column
returns-clause-column g c =
    let s = g.S.Semiring.arithmetic in
    let a = c.args.left.now in
    let ts = c.args.terms.now in
    let filled = rw (c.entries.ensures.rows, c.entries.ensures.values, c.swap.ensures.y_after) at c.fill_outside.ensures in
    on_ok_weaker c.fill_outside.result (λ h i. h i ∙ ap (cond (is_among c.args.excluded.now i) s.zero) (c.in_ok-make.ensures.column i ∙ terms_alone s g.met.S.Semiring.is_semiring a c.requires.left ts c.requires.terms i)) filled
