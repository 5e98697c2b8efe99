use Rattle.cb_plan.specs.Closings.{shut_from}
use Rattle.cb_plan.proofs.Ranges.{extended}
use Rattle.cb_plan.proofs.plans.with_closings.Goals as goal

pub loop-from-preserved : goal.loop-from-preserved
loop-from-preserved c = extended (shut_from c.args.ranks) c.loop-from.from _ _ _ c.loop-from.invariant c.in_ok-shut_each.ensures
