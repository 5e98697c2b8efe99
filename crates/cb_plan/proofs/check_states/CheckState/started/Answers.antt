use Rattle.std.proofs.Common.{◌∙◌, ap, arith}
use Rattle.cb_plan.specs.Checks.{lanes_in}
use Rattle.cb_plan.proofs.CheckSteps.{start_next}
use Rattle.cb_plan.proofs.check_states.CheckState.started.Goals as goal

pub loop-start-preserved : goal.loop-start-preserved
loop-start-preserved c = (
  c.set_slot.ensures.ranks ∙ c.loop-start.invariant.0,
  ap lanes_in c.set_slot.ensures.shut ∙ c.loop-start.invariant.1,
  start_next c.args.starts.now c.loop-start.start-index c.start-item.result c.loop-start.state c.set_slot.new.self _ (omega arith) c.start-item.is c.set_slot.ensures c.loop-start.invariant.2,
)
