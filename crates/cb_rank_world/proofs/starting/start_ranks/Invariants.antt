use Rattle.std.proofs.Common.{◌≡◌, ◌≤◌, ◌<◌, ◌+◌, length, vec_capacity, vec_len}
use Rattle.cb_rank_world.proofs.NewRanks.{Stores, AreStarting}
use Rattle.cb_rank_world.proofs.starting.start_ranks.Given as goal

abbrev pub invariant-loop-store : goal.invariant-loop-store
invariant-loop-store g l =
    ((rest : Stores) × AreStarting l.plan l.fn.stores.items l.stores.items l.ranks.items rest)
    × (length l.stores.items + length l.ranks.items ≡ l.plan.ranks)
    × (l.plan.ranks < 65536)
    × (l.plan.ranks ≤ vec_capacity l.stores)
    × (l.plan.ranks ≤ vec_capacity l.ranks)

abbrev pub decreases-loop-store : goal.decreases-loop-store
decreases-loop-store g l = vec_len l.stores
