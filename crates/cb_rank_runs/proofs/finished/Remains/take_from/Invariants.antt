use Rattle.std.proofs.Common.{◌≡◌, ◌+◌, ◌≤◌, ◌++◌, vec_len, vec_capacity, length}
use Rattle.cb_rank_runs.specs.Crews.{desks_of, stores_of, counts_of}
use Rattle.cb_rank_runs.proofs.finished.Remains.take_from.Given as goal

abbrev pub invariant-loop-rank : goal.invariant-loop-rank
invariant-loop-rank g l =
    let rest = l.rank-iterator.rest.items in record {
      stores : l.stores.items ++ stores_of rest ≡ stores_of l.fn.crew.items;
      refusals : l.refusals.items ++ counts_of rest ≡ counts_of l.fn.crew.items;
      desks : l.desks.items ++ desks_of rest ≡ desks_of l.fn.crew.items;
      stores_room : vec_len l.stores + length rest ≤ vec_capacity l.stores;
      refusals_room : vec_len l.refusals + length rest ≤ vec_capacity l.refusals;
      desks_room : vec_len l.desks + length rest ≤ vec_capacity l.desks;
    }
