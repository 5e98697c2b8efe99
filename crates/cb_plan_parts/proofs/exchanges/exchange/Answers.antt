use Rattle.std.proofs.Common.{◌+◌, length, arith}
use Rattle.cb_plan_parts.specs.Collectives.{sent_from}
use Rattle.cb_plan_parts.proofs.PlanGrowth.{appended_none, next_have_room, next_are_appended}
use Rattle.cb_plan_parts.proofs.exchanges.exchange.Goals as goal

pub loop-s-init : goal.loop-s-init
loop-s-init c = appended_none _

pub send_from-requires : goal.send_from-requires
send_from-requires c =
    let ms = c.args.members.now in
    record {
      member = omega arith;
      read = c.requires.read;
      room = next_have_room (λ s. sent_from ms c.args.tag c.args.slot (c.args.into + s) s) 0 (length ms) c.loop-s.s _ _ c.loop-s.s (omega arith) (omega arith) c.requires.room c.loop-s.invariant;
    }

pub loop-s-preserved : goal.loop-s-preserved
loop-s-preserved c =
    let ms = c.args.members.now in
    next_are_appended (λ s. sent_from ms c.args.tag c.args.slot (c.args.into + s) s) 0 (length ms) c.loop-s.s _ _ c.loop-s.s _ (omega arith) c.loop-s.invariant c.send_from.ensures.appended
