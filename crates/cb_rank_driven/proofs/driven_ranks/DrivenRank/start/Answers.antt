use Rattle.std.proofs.Common.{◌≡◌, [], replicate, sym, ap, ◌∙◌}
use Rattle.cb_rank.specs.Ranks.{RankView, new_rank}
use Rattle.cb_rank_driven.specs.DrivenRanks.{DrivenView, driven_view}
use Rattle.cb_rank_driven.proofs.DrivenHalves.{is_new}
use Rattle.cb_rank_driven.proofs.driven_ranks.DrivenRank.start.Goals as goal

pub invariant_of-result : goal.invariant_of-result
invariant_of-result g c =
    let p = c.args.plan.now in
    let x : DrivenView = driven_view c.in-Ok.rank c.of-first.result.value c.in_ok-posted.posted.letters c.in_ok-taken.taken.letters in
    let new : x.rank ≡ new_rank p c.args.me x.first = c.in-Ok.ensures.new ∙ ap (λ st. new_rank p c.args.me st) (sym c.of-first.ensures) in (
      sym (ap (λ (v : RankView). v.me) new),
      is_new g.S.Semiring.arithmetic p c.args.me x c.want-next.ensures.rank new (c.in_ok-posted.ensures ∙ ap (λ n. replicate n []) c.ranks-2.ensures.ranks) (c.in_ok-taken.ensures ∙ ap (λ n. replicate n []) c.ranks-3.ensures.ranks),
    )
