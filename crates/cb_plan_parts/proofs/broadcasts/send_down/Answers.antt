use Rattle.std.proofs.Common.{◌≡◌, ◌+◌, ◌-◌, ◌/◌, false, length, eq-eqb, arith}
use Rattle.std.specs.Prelude.{◌==◌, if◌then◌else◌}
use Rattle.std.proofs.lemmas.Bool.Decides.{nat_tests}
use Rattle.cb_plan_parts.specs.Collectives.{turned_at, tree_move}
use Rattle.cb_plan_parts.proofs.PlanGrowth.{appended_none, next_has_room, next_appended}
use Rattle.cb_plan_parts.proofs.MemberPlaces.{turned_at-length, is_tree_move}
use Rattle.cb_plan_parts.proofs.broadcasts.send_down.Goals as goal
use Rattle.cb_plan_parts.proofs.broadcasts.send_down.Goals.{then-parent-eq0, else-parent-eq0}

pub loop-p-init : goal.loop-p-init
loop-p-init c = appended_none _

pub append-requires : goal.append-requires
append-requires c =
    let ms = turned_at c.args.place c.args.members.now in
    let l = turned_at-length c.args.place c.args.members.now in
    next_has_room (tree_move ms c.args.tag c.args.slot c.args.into) 1 (length ms - 1) (c.loop-p.p - 1) _ _ c.loop-p.p _ (omega arith) (omega arith) c.requires.room c.loop-p.invariant

pub loop-p-preserved : goal.loop-p-preserved
loop-p-preserved c =
    let ms = turned_at c.args.place c.args.members.now in
    let e : c.loop-p.p + 1 - 1 ≡ c.loop-p.p - 1 + 1 = omega arith in
    let held : c.if-parent-eq0.held ≡ (if (c.loop-p.p - 1) / 2 == 0 then c.args.slot else c.args.into) =
    elim c.if-parent-eq0.branch [
      | then-parent-eq0 w ↦ rw (eq-eqb ((c.loop-p.p - 1) / 2) 0 w.if-parent-eq0.true) w.held-is
      | else-parent-eq0 w ↦ (let f : ((c.loop-p.p - 1) / 2 == 0) ≡ false = grind (arith, nat_tests, w.if-parent-eq0.false) in rw f w.held-is)
    ] in
    let is = is_tree_move ms c.args.tag c.args.slot c.args.into c.loop-p.p _ _ _ c.member_after.ensures c.member_after-in-loop-p.ensures held in
    rw e (next_appended (tree_move ms c.args.tag c.args.slot c.args.into) 1 (length ms - 1) (c.loop-p.p - 1) _ _ c.loop-p.p _ _ (omega arith) is c.loop-p.invariant c.append.ensures.appended)
