use Rattle.cb_plan_parts.proofs.LoopGrowth.{grew_next}
use Rattle.cb_plan_transfers.specs.Rounds.{round}
use Rattle.cb_plan_transfers.proofs.rounds.exchange_in_rounds.Goals as goal

pub loop-distance-preserved : goal.loop-distance-preserved
loop-distance-preserved c = grew_next (round c.args.members.now c.args.tag c.args.slot c.args.into) c.loop-distance.distance c.args.plan.now c.loop-distance.plan _ c.loop-distance.invariant c.in_ok-send_ahead.ensures.acts
