use Rattle.std.proofs.Common.{◌≡◌, ◌+◌, ◌≤◌, length, vec_len, vec_capacity}
use Rattle.cb_rank_runs.specs.Crews.{Ran}
use Rattle.cb_rank_runs.proofs.LeavingsSoFar.{HasJoined}
use Rattle.cb_rank_crews.specs.Backs.{was_given}
use Rattle.cb_rank_crews.proofs.crew.gather.Given as goal

abbrev pub invariant-loop-one : goal.invariant-loop-one
invariant-loop-one g l =
    let rest = l.one-iterator.rest.items in record {
      ran : HasJoined was_given (Ran g.S.Semiring.arithmetic) l.fn.back.items rest l.members.items;
      same : vec_len l.idle ≡ vec_len l.members;
      idle_room : vec_len l.idle + length rest ≤ vec_capacity l.idle;
      members_room : vec_len l.members + length rest ≤ vec_capacity l.members;
    }
