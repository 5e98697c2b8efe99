use Rattle.std.proofs.Common.{◌∷◌, true≢false, sym, ap, subst, ◌∙◌}
use Rattle.std.proofs.lemmas.List.Elements.{All-cons, All-tail, All-head}
use Rattle.cb_matrix.specs.Sparse.{Sparse}
use Rattle.cb_shares.specs.Shares.{AreBefore}
use Rattle.cb_shares.proofs.PanelsBefore.{before_panels}
use Rattle.cb_shares.proofs.joins.is_before_all.Goals as goal

pub returns-then-is_before : goal.returns-then-is_before
returns-then-is_before g c =
    let es = c.args.block.now.entries in
    let first = c.panels.result.0.now in
    let others = c.panels.result.1.now in
    let Before : Sparse → Type 0 = λ p. AreBefore es p.entries in
    let same = ap (λ (m : Sparse). m.entries) c.panels.ensures.panels in
    let all = before_panels es (first ∷ others) in (
      (λ t. subst (AreBefore es) same (all.1 (All-cons Before first others (c.is_before.ensures.0 c.if-is_before.true) (c.is_before_panels.ensures.0 t)))),
      (λ h. c.is_before_panels.ensures.1 (All-tail Before first others (all.0 (subst (AreBefore es) (sym same) h)))),
    )

pub returns-else-is_before : goal.returns-else-is_before
returns-else-is_before g c =
    let es = c.args.block.now.entries in
    let first = c.panels.result.0.now in
    let others = c.panels.result.1.now in
    let Before : Sparse → Type 0 = λ p. AreBefore es p.entries in
    let same = ap (λ (m : Sparse). m.entries) c.panels.ensures.panels in
    let all = before_panels es (first ∷ others) in (
      (λ t. absurd (true≢false (sym t ∙ c.if-is_before.false))),
      (λ h. c.is_before.ensures.1 (All-head Before first others (all.0 (subst (AreBefore es) (sym same) h)))),
    )
