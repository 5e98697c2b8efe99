-- The other rank is no stranger in this rank's own mailbox, which therefore answers.
use Rattle.std.proofs.Common.{◌≡◌, false, sym, ◌∙◌}
use Rattle.cb_mailbox.specs.Inbox.{lane_from}
use Rattle.cb_rank_world.specs.Ends.{EndsView, is_out}
use Rattle.cb_rank_world.specs.EndLaws.{known_here}
use Rattle.cb_rank_world.proofs.Boxes.{not_stranger}
use Rattle.cb_rank_world.proofs.ends.EndsPorts.try_take.Goals as goal

pub returns-clause-stranger : goal.returns-clause-stranger
returns-clause-stranger g c =
    let ends : EndsView _ = record { me = c.self.inside.me; boxes = c.self.inside.boxes.items } in
    let out : is_out ends c.args.from ≡ false = rw (← c.self.view_is) at (sym c.is_out.ensures ∙ c.if-is_out.false) in
    let it = known_here ends c.args.from c.index_mut.result.now c.self.invariant out c.index_mut.ensures.value in
    let answer = (c.take.ensures.answer it.0).0 in
    let lane = lane_from c.index_mut.result.now c.args.from in
    (λ e. absurd (not_stranger lane.closed lane.queue (sym answer ∙ e)), λ e. let no = sym out ∙ rw (← c.self.view_is) at e in cc)
