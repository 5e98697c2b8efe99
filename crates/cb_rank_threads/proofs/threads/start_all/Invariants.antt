use Rattle.std.proofs.Common.{◌≡◌, ◌+◌, ◌≤◌, ◌++◌, map, length, vec_len, vec_capacity}
use Rattle.cb_rank_runs.specs.Crews.{AreNew}
use Rattle.cb_rank_threads.specs.Started.{started, started_recorder}
use Rattle.cb_rank_threads.proofs.threads.start_all.Given as goal

abbrev pub invariant-loop-rank : goal.invariant-loop-rank
invariant-loop-rank g l =
    let rest = l.rank-iterator.a.rest.items in let others = l.rank-iterator.b.rest.items in record {
      all : map started l.threads.items ++ rest ≡ l.fn.crew.items;
      recorders : map started_recorder l.threads.items ++ others ≡ l.fn.recorders.items;
      same : length rest ≡ length others;
      new : AreNew rest;
      few : vec_len l.threads + length rest ≡ vec_len l.fn.crew;
      room : vec_len l.fn.crew ≤ vec_capacity l.threads;
    }
