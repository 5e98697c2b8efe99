use Rattle.std.proofs.Common.{◌≡◌, false, ap, sym, ◌∙◌, arith}
use Rattle.std.proofs.lemmas.Grind.{common_steps}
use Rattle.std.proofs.lemmas.List.{length-set}
use Rattle.cb_letters.specs.Lane.{take_answer}
use Rattle.cb_letters.proofs.LaneLetters.{IsAddressed-take}
use Rattle.cb_mailbox.specs.Inbox.{is_stranger, lane_from}
use Rattle.cb_mailbox.proofs.Inboxes.{box_of, HasLanes-take}
use Rattle.cb_mailbox.proofs.Mailbox.take.Goals as goal

pub invariant_of-self : goal.invariant_of-self
invariant_of-self g c =
    let size = length-set c.self.inside.lanes.items c.args.from c.take.new.self in
    let known : is_stranger (box_of c.self.inside.me c.self.inside.lanes.items) c.args.from ≡ false = grind (arith, common_steps, c.if-is_stranger.false, c.is_stranger.ensures, c.self.view_is) in
    let here : c.index_mut.result.now ≡ lane_from (box_of c.self.inside.me c.self.inside.lanes.items) c.args.from = grind (arith, common_steps, c.index_mut.ensures.value) in
    (omega arith, omega arith, rw (c.take.ensures.after, here) (HasLanes-take (box_of c.self.inside.me c.self.inside.lanes.items) c.args.from c.self.invariant.2 known))

pub returns-clause-letter : goal.returns-clause-letter
returns-clause-letter g c = λ x answered.
    let known : is_stranger (box_of c.self.inside.me c.self.inside.lanes.items) c.args.from ≡ false = grind (arith, common_steps, c.if-is_stranger.false, c.is_stranger.ensures, c.self.view_is) in
    let here : c.index_mut.result.now ≡ lane_from (box_of c.self.inside.me c.self.inside.lanes.items) c.args.from = grind (arith, common_steps, c.index_mut.ensures.value) in
    rw (← c.self.view_is)
    (IsAddressed-take c.args.from c.self.inside.me (lane_from (box_of c.self.inside.me c.self.inside.lanes.items) c.args.from) x (c.self.invariant.2 c.args.from known)
    (ap take_answer (sym here) ∙ sym c.take.ensures.answer ∙ answered))
