use Rattle.std.proofs.Common.{rules, ◌≡◌, length, sym, ◌∙◌, arith}
use Rattle.cb_plan_parts.specs.Appends.{HasRoom}
use Rattle.cb_plan_parts.specs.Collectives.{turned, copied_at, tree_moves, broadcast_acts}
use Rattle.cb_plan_parts.proofs.PlanGrowth.{room_left}
use Rattle.cb_plan_parts.proofs.Counts.{count_broadcast}
use Rattle.cb_plan_parts.proofs.MemberPlaces.{place-below}
use Rattle.cb_plan_parts.proofs.Spread.{broadcast_spreads}
use Rattle.cb_plan_parts.proofs.broadcasts.broadcast.Goals as goal

pub acts_among-requires : goal.acts_among-requires
acts_among-requires c = let l = place-below c.args.members.now c.args.root c.requires.root in omega arith

pub send_down-requires : goal.send_down-requires
send_down-requires c =
    let e = count_broadcast c.args.members.now c.args.root c.args.tag c.args.slot c.args.into c.requires.root in
    let f = c.acts_among.ensures in
    let r = c.in_ok-make_room.ensures.room in
    let h : HasRoom c.make_room.new.self (broadcast_acts c.args.members.now c.args.root c.args.tag c.args.slot c.args.into) =
    record { memory = omega arith; limit = omega arith } in
    let k = room_left (copied_at c.args.root c.args.slot c.args.into) (tree_moves (turned c.args.members.now c.args.root) c.args.tag c.args.slot c.args.into) c.make_room.new.self c.copy_at.new.plan h c.copy_at.ensures.appended in
    record {
      place = rw c.place_in.ensures (place-below c.args.members.now c.args.root c.requires.root);
      room = rw c.place_in.ensures k;
    }

pub returns-in_err-make_room-clause-faults : goal.returns-in_err-make_room-clause-faults
returns-in_err-make_room-clause-faults c =
    let e = count_broadcast c.args.members.now c.args.root c.args.tag c.args.slot c.args.into c.requires.root in
    let f : c.acts_among.result ≡ length (broadcast_acts c.args.members.now c.args.root c.args.tag c.args.slot c.args.into) =
    c.acts_among.ensures ∙ sym e in
    let h = rw f at c.in_err-make_room.ensures.faults in
    let g = c.from_residual.ensures in
    search rules

pub returns-in_err-make_room-clause-means : goal.returns-in_err-make_room-clause-means
returns-in_err-make_room-clause-means c ops state =
    broadcast_spreads ops c.args.members.now c.args.root c.args.tag c.args.slot c.args.into state c.requires.root
