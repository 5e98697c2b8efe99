use Rattle.std.proofs.Common.{refl}
use Rattle.cb_plan_parts.specs.Collectives.{added_from}
use Rattle.cb_plan_parts.proofs.PlanGrowth.{appended_none, element_has_room, element_is_appended}
use Rattle.cb_plan_parts.proofs.reductions.add_members.Goals as goal

pub loop-member-init : goal.loop-member-init
loop-member-init c = appended_none _

pub add_member-requires : goal.add_member-requires
add_member-requires c = record {
  room = element_has_room (added_from c.args.root c.args.tag c.args.slot c.args.into c.args.scratch) c.args.members.now c.loop-member.member-index _ _ _ c.loop-member-test.true refl c.requires.room c.loop-member.invariant;
}

pub loop-member-preserved : goal.loop-member-preserved
loop-member-preserved c =
    element_is_appended (added_from c.args.root c.args.tag c.args.slot c.args.into c.args.scratch) c.args.members.now c.loop-member.member-index _ _ _ c.loop-member-test.true refl _ c.loop-member.invariant c.add_member.ensures.appended
