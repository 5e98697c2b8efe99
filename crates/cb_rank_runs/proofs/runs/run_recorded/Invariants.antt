use Rattle.std.proofs.Common.{◌-◌, length}
use Rattle.cb_rank_runs.proofs.RunSoFar.{HasRun}
use Rattle.cb_rank_runs.proofs.RecorderEvents.{HasTold}
use Rattle.cb_rank_runs.proofs.runs.run_recorded.Given as goal

abbrev pub invariant-loop-desk : goal.invariant-loop-desk
invariant-loop-desk g l = record {
  ran : HasRun g.S.Semiring.arithmetic l.fn.rank l.fn.desk l.rank l.desk;
  told : HasTold g.T.Recorder.tells l.fn.recorder l.fn.rank l.recorder l.rank l.desk;
}

abbrev pub decreases-loop-desk : goal.decreases-loop-desk
decreases-loop-desk g l = length l.rank.program - l.rank.done
