use Rattle.std.proofs.Common.{◌+◌, ◌≤◌, map, vec_len, vec_capacity, length, IfNone, IfSome}
use Rattle.cb_rank_runs.specs.Crews.{Ran}
use Rattle.cb_rank_runs.specs.NamedRanks.{IsFirstGone}
use Rattle.cb_rank_threads.specs.Started.{started, started_recorder}
use Rattle.cb_rank_runs.proofs.LeavingsSoFar.{HasJoined}
use Rattle.cb_rank_threads.proofs.ToldThreads.{Tell}
use Rattle.cb_rank_threads.proofs.threads.join_all.Given as goal

abbrev pub invariant-loop-running : goal.invariant-loop-running
invariant-loop-running g l =
    let rest = l.running-iterator.rest.items in record {
      ran : IfNone l.gone (HasJoined started (Ran g.S.Semiring.arithmetic) l.fn.threads.items rest l.members.items);
      told : IfNone l.gone (Tell g.T.Recorder.tells started started_recorder l.fn.threads.items rest l.recorders.items);
      gone : IfSome l.gone (λ alone. IsFirstGone g.S.Semiring.arithmetic (map started l.fn.threads.items) alone.rank);
      members_room : vec_len l.members + length rest ≤ vec_capacity l.members;
      recorders_room : vec_len l.recorders + length rest ≤ vec_capacity l.recorders;
    }
