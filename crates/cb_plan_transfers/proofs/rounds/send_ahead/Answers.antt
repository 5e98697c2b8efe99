use Rattle.std.proofs.Common.{◌≡◌, ◌++◌, ◌∷◌, [], ap, ◌∙◌}
use Rattle.cb_plan.specs.declared.acts.Act.{Act}
use Rattle.cb_plan_parts.proofs.LoopGrowth.{grew_by_one}
use Rattle.cb_plan_transfers.specs.Rounds.{sent_ahead}
use Rattle.cb_plan_transfers.proofs.rounds.send_ahead.Goals as goal

pub loop-s-preserved : goal.loop-s-preserved
loop-s-preserved c =
    let is : c.sent-act.result ≡ sent_ahead c.args.members.now c.args.tag c.args.slot c.args.into c.args.distance c.loop-s.s = c.sent-act.ensures in
    grew_by_one (sent_ahead c.args.members.now c.args.tag c.args.slot c.args.into c.args.distance) c.loop-s.s c.args.plan.now c.loop-s.plan _ c.loop-s.invariant c.in_ok-push.ensures.ranks
    (c.in_ok-push.ensures.acts ∙ ap (λ (act : Act). c.loop-s.plan.acts ++ act ∷ []) is)
