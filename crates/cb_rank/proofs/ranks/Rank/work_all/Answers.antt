use Rattle.std.proofs.Common.{sym, ◌∙◌, refl, subst}
use Rattle.std.specs.Prelude.{All}
use Rattle.cb_rank.specs.AddedProducts.{FitProduct}
use Rattle.cb_rank.proofs.WorksInTurn.{left_over, all_fit, worked_on}
use Rattle.cb_rank.proofs.ranks.Rank.work_all.Goals as goal

pub operate_all-requires-clause-each : goal.operate_all-requires-clause-each
operate_all-requires-clause-each g c κs lives =
    let acc = c.in-Some.next.acc in
    let products = c.in-Some.next.factors.items in
    let add = left_over acc c.deref.result.now c.self.inside.program.items c.self.inside.done products c.deref.ensures.value c.in-Some.ensures.products in
    subst (λ ps. All (FitProduct c.self.inside.store acc) ps) (sym c.deref-2.ensures.value) (all_fit g.S.Semiring.arithmetic acc _ products c.self.invariant add)

pub invariant_of-self-2 : goal.invariant_of-self-2
invariant_of-self-2 g c =
    let acc = c.in-Some.next.acc in
    let products = c.in-Some.next.factors.items in
    let add = left_over acc c.deref.result.now c.self.inside.program.items c.self.inside.done products c.deref.ensures.value c.in-Some.ensures.products in
    (worked_on g.S.Semiring.arithmetic acc _ products c.deref-2.result.now c.operate_all.new.store c.len.result c.self.invariant add c.in-Some.ensures.several c.deref-2.ensures.value (c.if-not-operate_all.ensures.done refl) (c.len.ensures ∙ sym c.deref-2.ensures.len)).0

pub returns-clause-done : goal.returns-clause-done
returns-clause-done g c =
    let acc = c.in-Some.next.acc in
    let products = c.in-Some.next.factors.items in
    let add = left_over acc c.deref.result.now c.self.inside.program.items c.self.inside.done products c.deref.ensures.value c.in-Some.ensures.products in
    λ yes.
    rw (← c.self.view_is)
    (worked_on g.S.Semiring.arithmetic acc _ products c.deref-2.result.now c.operate_all.new.store c.len.result c.self.invariant add c.in-Some.ensures.several c.deref-2.ensures.value (c.if-not-operate_all.ensures.done refl) (c.len.ensures ∙ sym c.deref-2.ensures.len)).1
