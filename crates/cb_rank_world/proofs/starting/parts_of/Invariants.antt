use Rattle.std.proofs.Common.{◌≡◌, ◌≤◌, length, map, vec_capacity}
use Rattle.cb_rank_world.proofs.starting.parts_of.Given as goal

abbrev pub invariant-loop-rank : goal.invariant-loop-rank
invariant-loop-rank g l = record {
  stores : l.stores.items ≡ map (λ x. x.slots) l.yielded;
  refusals : l.refusals.items ≡ map (λ x. x.refusals) l.yielded;
  stores_room : length l.fn.ranks.items ≤ vec_capacity l.stores;
  refusals_room : length l.fn.ranks.items ≤ vec_capacity l.refusals;
}
