use Rattle.std.proofs.Common.{◌+◌, length, refl, arith}
use Rattle.cb_plan_parts.specs.Collectives.{member, sent}
use Rattle.cb_plan_parts.proofs.PlanGrowth.{appended_none, next_has_room, next_appended}
use Rattle.cb_plan_parts.proofs.gathers.send_to_root.Goals as goal

pub loop-t-init : goal.loop-t-init
loop-t-init c = appended_none _

pub send-requires : goal.send-requires
send-requires c =
    let ms = c.args.members.now in
    next_has_room (λ t. sent (member ms t) c.args.root c.args.tag c.args.slot (c.args.into + t)) 0 (length ms) c.loop-t.t _ _ c.loop-t.t _ (omega arith) (omega arith) c.requires.room c.loop-t.invariant

pub loop-t-preserved : goal.loop-t-preserved
loop-t-preserved c =
    let ms = c.args.members.now in
    next_appended (λ t. sent (member ms t) c.args.root c.args.tag c.args.slot (c.args.into + t)) 0 (length ms) c.loop-t.t _ _ c.loop-t.t _ _ (omega arith) refl c.loop-t.invariant c.send.ensures.appended
