use Rattle.std.proofs.Common.{◌≡◌, ◌+◌, ◌≤◌, ◌++◌, length, vec_len, vec_capacity}
use Rattle.std.specs.Prelude.{drop}
use Rattle.cb_rank_runs.specs.Crews.{AreNewRanks, desks_of}
use Rattle.cb_rank_runs.proofs.crew.pair_up.Given as goal

abbrev pub invariant-loop-store : goal.invariant-loop-store
invariant-loop-store g l =
    let rest = l.store-iterator.a.rest.items in let others = l.store-iterator.b.rest.items in record {
      desks : desks_of l.crew.items ++ others ≡ l.fn.desks.items;
      stores : drop (length l.crew.items) l.fn.stores.items ≡ rest;
      ranks : AreNewRanks l.fn.plan l.fn.stores.items l.crew.items;
      same : length rest ≡ length others;
      count : vec_len l.crew + length rest ≡ length l.fn.desks.items;
      room : vec_len l.crew + length rest ≤ vec_capacity l.crew;
    }
