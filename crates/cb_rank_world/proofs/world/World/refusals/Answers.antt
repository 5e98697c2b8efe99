-- The sum so far is part of the whole, which is small.
use Rattle.std.proofs.Common.{◌≡◌, ◌<◌, length, get_or, ◌∙◌, ap, arith}
use Rattle.std.proofs.lemmas.List.Sums.{sum_by_more_le}
use Rattle.cb_rank.specs.Ranks.{RankView}
use Rattle.cb_rank_world.specs.Worlds.{no_rank}
use Rattle.cb_rank_world.proofs.NoDeadlock.{few_refused}
use Rattle.cb_rank_world.proofs.LaneNeeds.{read_at}
use Rattle.cb_rank_world.proofs.world.World.refusals.Goals as goal

pub overflow_add-refusals : goal.overflow_add-refusals
overflow_add-refusals g c =
    let sound = c.self.invariant.0 in
    let few = few_refused _ _ sound in
    let long = sound.few in
    let size = sound.sizes.0 in
    let so_far = rw (← c.self.view_is) at c.loop-rank.invariant in
    let there : c.loop-rank.rank-index < length c.self.inside.ranks.items = rw c.deref-rank-items.ensures.value at c.loop-rank-test.true in
    let item = read_at c.self.inside.ranks.items c.loop-rank.rank-index c.rank-item.result no_rank there (rw c.deref-rank-items.ensures.value at c.rank-item.is) in
    let one : c.refusals-refusals.result ≡ (get_or c.self.inside.ranks.items c.loop-rank.rank-index no_rank).refusals = c.refusals-refusals.ensures ∙ ap (λ (x : RankView). x.refusals) item in
    let most = sum_by_more_le (λ (x : RankView). x.refusals) c.self.inside.ranks.items c.loop-rank.rank-index no_rank there in
    omega arith
