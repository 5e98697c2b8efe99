use Rattle.std.proofs.Common.{[], ◌∷◌, arith}
use Rattle.std.specs.List.{flat_map}
use Rattle.cb_plan.specs.declared.acts.Op.TheVariants as op_is
use Rattle.cb_plan.specs.declared.acts.Act.TheVariants as act_is
use Rattle.cb_plan_parts.specs.Appends.{HasRoom}
use Rattle.cb_plan_parts.specs.Collectives.{added_from, reduce_acts}
use Rattle.cb_plan_parts.proofs.PlanGrowth.{room_left}
use Rattle.cb_plan_parts.proofs.Counts.{count_reduce}
use Rattle.cb_plan_parts.proofs.reductions.reduce.Goals as goal

pub add_members-requires : goal.add_members-requires
add_members-requires c =
    let e = count_reduce c.args.members.now c.args.root c.args.tag c.args.slot c.args.into c.args.scratch c.requires.root c.requires.distinct in
    let r = c.in_ok-make_room.ensures.room in
    let h : HasRoom c.make_room.new.self (reduce_acts c.args.members.now c.args.root c.args.tag c.args.slot c.args.into c.args.scratch) =
    record { memory = omega arith; limit = omega arith } in
    record {
      room = room_left (act_is.Work c.args.root (op_is.Copy c.args.slot c.args.into) ∷ []) (flat_map (added_from c.args.root c.args.tag c.args.slot c.args.into c.args.scratch) c.args.members.now) _ _ h c.work.ensures.appended;
    }
