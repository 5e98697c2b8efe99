use Rattle.cb_plan.proofs.SoundActs.{move_is_done, work_is_done, shape_is_made}
use Rattle.cb_plan.proofs.check_states.CheckState.pass.Goals as goal

pub returns-in-Move : goal.returns-in-Move
returns-in-Move c =
    let h = rw c.slot-shape.ensures at c.set_slot.ensures in
    rw c.in-Move.is (move_is_done c.in-Move.from c.in-Move.to c.in-Move.tag c.in-Move.slot c.in-Move.into c.args.self.now c.set_slot.new.self h)

pub returns-in-Ok : goal.returns-in-Ok
returns-in-Ok c =
    let sound = rw c.in-Work.is at c.requires in
    let made = shape_is_made _ _ _ _ _ c.made_by.ensures sound.agree c.in-Ok.is in
    let h = rw (made, c.target.ensures) at c.set_slot-in-Work.ensures in
    rw c.in-Work.is (work_is_done c.in-Work.rank c.in-Work.op c.args.self.now c.set_slot-in-Work.new.self h)
