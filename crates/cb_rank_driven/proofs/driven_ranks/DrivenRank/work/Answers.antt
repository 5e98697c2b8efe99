use Rattle.std.proofs.Common.{refl, sym, ◌∙◌}
use Rattle.cb_rank_driven.specs.DrivenRanks.{DrivenView, driven_view}
use Rattle.cb_rank_driven.proofs.DrivenHalves.{worked}
use Rattle.cb_rank_driven.proofs.driven_ranks.DrivenRank.work.Goals as goal

pub invariant_of-self : goal.invariant_of-self
invariant_of-self g c =
    let x : DrivenView = driven_view c.self.inside.rank c.self.inside.first.value c.self.inside.posted.letters c.self.inside.taken.letters in
    let y : DrivenView = record x { rank = c.work.new.self } in
    let did = worked g.S.Semiring.arithmetic x _ c.self.view_is c.self.invariant.1 y refl c.want-after.ensures.rank (sym c.want.ensures.value ∙ c.in-Work.is) c.work.ensures.half refl refl in
    (c.self.invariant.0 ∙ did.0, did.1)

pub returns-clause-does : goal.returns-clause-does
returns-clause-does g c =
    let x : DrivenView = driven_view c.self.inside.rank c.self.inside.first.value c.self.inside.posted.letters c.self.inside.taken.letters in
    let y : DrivenView = record x { rank = c.work.new.self } in
    let did = worked g.S.Semiring.arithmetic x _ c.self.view_is c.self.invariant.1 y refl c.want-after.ensures.rank (sym c.want.ensures.value ∙ c.in-Work.is) c.work.ensures.half refl refl in
    did.2
