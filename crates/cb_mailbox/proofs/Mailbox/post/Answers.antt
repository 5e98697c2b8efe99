use Rattle.std.proofs.Common.{◌≡◌, false, arith}
use Rattle.std.proofs.lemmas.Grind.{common_steps}
use Rattle.std.proofs.lemmas.List.{length-set}
use Rattle.cb_mailbox.specs.Inbox.{is_stranger, lane_from}
use Rattle.cb_mailbox.proofs.Inboxes.{box_of, HasLanes-answer, answer_accepts, answer_refuses, answer_changes_nothing}
use Rattle.cb_mailbox.proofs.Mailbox.post.Goals as goal

pub invariant_of-self : goal.invariant_of-self
invariant_of-self g c =
    let size = length-set c.self.inside.lanes.items c.args.from c.post.new.self in
    let known : is_stranger (box_of c.self.inside.me c.self.inside.lanes.items) c.args.from ≡ false = grind (arith, common_steps, c.if-is_stranger.false, c.is_stranger.ensures, c.self.view_is) in
    let here : c.index_mut.result.now ≡ lane_from (box_of c.self.inside.me c.self.inside.lanes.items) c.args.from = grind (arith, common_steps, c.index_mut.ensures.value) in
    (omega arith, omega arith, HasLanes-answer (box_of c.self.inside.me c.self.inside.lanes.items) c.args.from _ _ c.post.result c.index_mut.result.now c.post.new.self c.self.invariant.2 known here c.post.ensures.accepted c.post.ensures.refused)

pub returns-clause-accepted : goal.returns-clause-accepted
returns-clause-accepted g c =
    let known : is_stranger (box_of c.self.inside.me c.self.inside.lanes.items) c.args.from ≡ false = grind (arith, common_steps, c.if-is_stranger.false, c.is_stranger.ensures, c.self.view_is) in
    let here : c.index_mut.result.now ≡ lane_from (box_of c.self.inside.me c.self.inside.lanes.items) c.args.from = grind (arith, common_steps, c.index_mut.ensures.value) in
    rw (← c.self.view_is) (answer_accepts (box_of c.self.inside.me c.self.inside.lanes.items) c.args.from c.index_mut.result.now c.post.new.self here c.args.body known c.args.tag c.post.result c.post.ensures.accepted)

pub returns-clause-refused : goal.returns-clause-refused
returns-clause-refused g c =
    let known : is_stranger (box_of c.self.inside.me c.self.inside.lanes.items) c.args.from ≡ false = grind (arith, common_steps, c.if-is_stranger.false, c.is_stranger.ensures, c.self.view_is) in
    let here : c.index_mut.result.now ≡ lane_from (box_of c.self.inside.me c.self.inside.lanes.items) c.args.from = grind (arith, common_steps, c.index_mut.ensures.value) in
    rw (← c.self.view_is) (answer_refuses (box_of c.self.inside.me c.self.inside.lanes.items) c.args.from c.index_mut.result.now c.post.new.self here c.args.body known c.post.result c.post.ensures.refused)

pub returns-clause-unchanged : goal.returns-clause-unchanged
returns-clause-unchanged g c =
    let known : is_stranger (box_of c.self.inside.me c.self.inside.lanes.items) c.args.from ≡ false = grind (arith, common_steps, c.if-is_stranger.false, c.is_stranger.ensures, c.self.view_is) in
    let here : c.index_mut.result.now ≡ lane_from (box_of c.self.inside.me c.self.inside.lanes.items) c.args.from = grind (arith, common_steps, c.index_mut.ensures.value) in
    rw (← c.self.view_is) (answer_changes_nothing (box_of c.self.inside.me c.self.inside.lanes.items) c.args.from c.index_mut.result.now c.post.new.self here c.args.body known c.post.result c.post.ensures.refused)
