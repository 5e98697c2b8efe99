use Rattle.std.proofs.Common.{◌≡◌, ◌⊎◌, ◌∙◌, [], inl, inr, sym}
use Rattle.std.proofs.lemmas.List.{nil_from_length}
use Rattle.cb_product.proofs.EmptyFactors.{nothing_added}
use Rattle.cb_product.proofs.multiply_into.Goals as goal
use Rattle.cb_product.proofs.multiply_into.Goals.{then-len-eq0-via-then-len-eq0, then-len-eq0-via-else-len-eq0+then-len-eq0-2}

pub returns-then-len-eq0-clause-ok : goal.returns-then-len-eq0-clause-ok
returns-then-len-eq0-clause-ok g c =
    let a = c.args.left.now in
    let b = c.args.right.now in
    let none : (a.entries ≡ []) ⊎ (b.entries ≡ []) = elim c.then-len-eq0.branch [
      | then-len-eq0-via-then-len-eq0 w ↦ inl (nil_from_length a.entries (sym c.len.ensures ∙ w.if-len-eq0.true))
      | then-len-eq0-via-else-len-eq0+then-len-eq0-2 w ↦ inr (nil_from_length b.entries (sym w.len-else-len-eq0.ensures ∙ w.if-len-eq0-2.true))
    ] in
    nothing_added g.S.Semiring.arithmetic g.met.S.Semiring.is_semiring a b c.shape.ensures.matrix c.shape-then-len-eq0.ensures.matrix none c.args.accumulator c.shape-then-len-eq0-2.ensures.matrix c.requires.shape
