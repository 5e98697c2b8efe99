use Rattle.std.proofs.Common.{◌≡◌, ◌+◌, ◌≤◌, ◌++◌, map, length, vec_len, vec_capacity}
use Rattle.cb_rank_crews.specs.Crews.{given}
use Rattle.cb_rank_crews.specs.Backs.{was_given}
use Rattle.cb_rank_crews.proofs.crew.wait_all.Given as goal

abbrev pub invariant-loop-worker : goal.invariant-loop-worker
invariant-loop-worker g l =
    let rest = l.worker-iterator.rest.items in record {
      all : map was_given l.back.items ++ map given rest ≡ map given l.fn.busy.items;
      room : vec_len l.back + length rest ≤ vec_capacity l.back;
    }
