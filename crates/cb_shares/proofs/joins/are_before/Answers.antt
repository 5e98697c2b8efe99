use Rattle.std.proofs.Common.{◌∷◌, true≢false, sym, ap, subst, ◌∙◌}
use Rattle.std.proofs.lemmas.List.Elements.{All-cons, All-tail, All-head}
use Rattle.cb_matrix.specs.Sparse.{Sparse}
use Rattle.cb_shares.specs.Shares.{AreBefore}
use Rattle.cb_shares.proofs.PanelsBefore.{panels_before}
use Rattle.cb_shares.proofs.joins.are_before.Goals as goal

pub returns-then-is_before_all : goal.returns-then-is_before_all
returns-then-is_before_all g c =
    let es = c.args.back.now.entries in
    let first = c.panels.result.0.now in
    let others = c.panels.result.1.now in
    let Before : Sparse → Type 0 = λ p. AreBefore p.entries es in
    let same = ap (λ (m : Sparse). m.entries) c.panels.ensures.panels in
    let all = panels_before es (first ∷ others) in (
      (λ t. subst (λ fs. AreBefore fs es) same (all.1 (All-cons Before first others (c.is_before_all.ensures.0 c.if-is_before_all.true) (c.are_panels_before.ensures.0 t)))),
      (λ h. c.are_panels_before.ensures.1 (All-tail Before first others (all.0 (subst (λ fs. AreBefore fs es) (sym same) h)))),
    )

pub returns-else-is_before_all : goal.returns-else-is_before_all
returns-else-is_before_all g c =
    let es = c.args.back.now.entries in
    let first = c.panels.result.0.now in
    let others = c.panels.result.1.now in
    let Before : Sparse → Type 0 = λ p. AreBefore p.entries es in
    let same = ap (λ (m : Sparse). m.entries) c.panels.ensures.panels in
    let all = panels_before es (first ∷ others) in (
      (λ t. absurd (true≢false (sym t ∙ c.if-is_before_all.false))),
      (λ h. c.is_before_all.ensures.1 (All-head Before first others (all.0 (subst (λ fs. AreBefore fs es) (sym same) h)))),
    )
