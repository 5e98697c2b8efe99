use Rattle.std.proofs.Common.{rules}
use Rattle.cb_job_ends.proofs.SinkLemmas.{appends_more}
use Rattle.cb_job_ends.proofs.sinks.put_all.Goals as goal

pub loop-at-preserved : goal.loop-at-preserved
loop-at-preserved g c = (
  search rules,
  appends_more _ _ _ _ _ _ c.loop-at.invariant.1 c.in_ok-n.ensures.bytes,
  search rules,
)
