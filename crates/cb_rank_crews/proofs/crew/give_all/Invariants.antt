use Rattle.std.proofs.Common.{◌≡◌, ◌+◌, ◌≤◌, ◌++◌, map, length, vec_len, vec_capacity}
use Rattle.cb_rank_runs.specs.Crews.{AreNew}
use Rattle.cb_rank_crews.specs.Crews.{given}
use Rattle.cb_rank_crews.proofs.crew.give_all.Given as goal

abbrev pub invariant-loop-rank : goal.invariant-loop-rank
invariant-loop-rank g l =
    let rest = l.rank-iterator.a.rest.items in record {
      all : map given l.busy.items ++ rest ≡ l.fn.crew.items;
      same : length rest ≡ length l.rank-iterator.b.rest.items;
      new : AreNew rest;
      few : vec_len l.busy + length rest ≡ vec_len l.fn.crew;
      room : vec_len l.busy + length rest ≤ vec_capacity l.busy;
    }
