use Rattle.std.proofs.Common.{rules, ◌≡◌, ◌∙◌, true, ap, ap₂}
use Rattle.cb_dcsc.specs.Columns.{with_entries}
use Rattle.cb_layout.specs.Distributed.{Distributed}
use Rattle.cb_market.proofs.Gatherings.{gathered_both}
use Rattle.cb_market.proofs.gathered.Gathered.append.Goals as goal

pub invariant_of-result : goal.invariant_of-result
invariant_of-result g c =
    let up : c.self.inside.ascends ≡ true = search rules in
    let whole = ap (λ (d : Distributed). d.matrix) c.in_ok-blocks.ensures ∙ ap₂ (λ (a b : Distributed). with_entries a.matrix b.matrix.entries) c.in_ok-own.ensures c.in_ok-others.ensures in
    gathered_both g.S.Semiring.arithmetic c.self.inside.blocks.matrix c.other.inside.blocks.matrix _ c.self.inside.list.items c.other.inside.list.items c.self.inside.ascends c.other.inside.ascends c.self.inside.first c.other.inside.first c.min-first.result c.self.inside.bound c.other.inside.bound c.max-bound.result
    c.self.invariant c.other.invariant up (ap (λ (d : Distributed). d.matrix) c.of.ensures ∙ whole) c.min-first.ensures c.max-bound.ensures
