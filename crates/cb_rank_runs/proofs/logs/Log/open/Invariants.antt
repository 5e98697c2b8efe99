use Rattle.std.proofs.Common.{◌≡◌, ◌≤◌, length, vec_capacity}
use Rattle.cb_rank_runs.specs.Logs.{AreNewLogs}
use Rattle.cb_rank_runs.proofs.logs.Log.open.Given as goal

abbrev pub invariant-loop-rank : goal.invariant-loop-rank
invariant-loop-rank g l = record {
  count : length l.logs.items ≡ l.rank;
  end : l.rank-end ≡ l.fn.plan.ranks;
  new : AreNewLogs l.logs.items;
  room : l.fn.plan.ranks ≤ vec_capacity l.logs;
}
