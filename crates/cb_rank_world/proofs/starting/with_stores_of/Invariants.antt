use Rattle.std.proofs.Common.{◌≡◌, ◌≤◌, ◌+◌, ◌++◌, length, vec_capacity, vec_len}
use Rattle.std.specs.Prelude.{map, reverse}
use Rattle.cb_rank_world.proofs.starting.with_stores_of.Given as goal

abbrev pub invariant-loop-rank : goal.invariant-loop-rank
invariant-loop-rank g l = (l.stores.items ++ map (λ x. x.slots) (reverse l.ranks.items) ≡ l.fn.stores.items ++ map (λ x. x.slots) (reverse l.fn.ranks.items)) × (length l.stores.items + length l.ranks.items ≤ vec_capacity l.stores)

abbrev pub decreases-loop-rank : goal.decreases-loop-rank
decreases-loop-rank g l = vec_len l.ranks
