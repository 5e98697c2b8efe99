use Rattle.std.proofs.Common.{ap, subst, ◌∙◌}
use Rattle.cb_rank.specs.Halves.{slot_at}
use Rattle.cb_rank_driven.specs.DrivenRanks.{DrivenView, driven_view}
use Rattle.cb_rank_driven.specs.Joined.{IsHeld, IsPartOfAnswer}
use Rattle.cb_rank_driven.proofs.JoinedRanks.{part_of_answer}
use Rattle.cb_rank_driven.proofs.driven_ranks.DrivenRank.finish.Goals as goal

pub returns-clause-joined : goal.returns-clause-joined
returns-clause-joined g c =
    let s = g.S.Semiring.arithmetic in
    let x : DrivenView = driven_view c.self.inside.rank c.self.inside.first.value c.self.inside.posted.letters c.self.inside.taken.letters in
    let slot = c.args.slot in
    let held : IsHeld (slot_at x.rank.slots slot) c.block_of.result = subst (λ z. IsHeld z c.block_of.result) (c.take.ensures.value ∙ ap (λ l. slot_at l slot) c.into_store-store.ensures) c.block_of.ensures in
    subst (λ z. IsPartOfAnswer s z slot c.block_of.result) c.self.view_is (part_of_answer s x slot c.block_of.result c.self.invariant.1.rank held)
