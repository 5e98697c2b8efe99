use Rattle.std.proofs.Common.{rules, ◌≡◌, subst, All, length, vec_len, vec_capacity}
use Rattle.std.proofs.lemmas.List.Elements.{All-head, All-rest}
use Rattle.cb_mailbox.specs.Run.{IsPostable}
use Rattle.cb_mailbox.proofs.Runs.{answers_go_on, after_goes_on, room_goes_on, answers_end, after_ends}
use Rattle.cb_mailbox.proofs.Mailbox.make.Goals as goal

pub call-answer-requires : goal.call-answer-requires
call-answer-requires g c = All-head IsPostable c.in-Some.call c.next.new.self.rest.items (subst (All IsPostable) c.in-Some.ensures.steps.0 c.loop-call.invariant.postable)

pub loop-call-preserved : goal.loop-call-preserved
loop-call-preserved g c =
    let next = c.in-Some.ensures.steps.0 in
    record {
      answers = answers_go_on c.loop-call.self c.call-answer.new.self c.in-Some.call c.loop-call.call-iterator.rest.items c.next.new.self.rest.items c.call-answer.ensures.after next c.loop-call.answers.items c.push_reserved.new.self.items _ c.call-answer.result c.push_reserved.ensures.items c.call-answer.ensures.answer c.loop-call.invariant.answers;
      after = after_goes_on c.loop-call.self c.call-answer.new.self c.in-Some.call c.loop-call.call-iterator.rest.items c.next.new.self.rest.items c.call-answer.ensures.after next _ c.loop-call.invariant.after;
      postable = All-rest IsPostable c.in-Some.call c.next.new.self.rest.items c.loop-call.call-iterator.rest.items next c.loop-call.invariant.postable;
      room = room_goes_on (vec_len c.loop-call.answers) (vec_len c.push_reserved.new.self) (vec_capacity c.loop-call.answers) (vec_capacity c.push_reserved.new.self) c.in-Some.call c.loop-call.call-iterator.rest.items c.next.new.self.rest.items c.push_reserved.ensures.len c.push_reserved.ensures.capacity next c.loop-call.invariant.room;
    }

pub returns-clause-answers : goal.returns-clause-answers
returns-clause-answers g c =
    let none : length c.loop-call.call-iterator.rest.items ≡ 0 = search rules in
    answers_end c.loop-call.self c.loop-call.answers.items _ c.loop-call.call-iterator.rest.items none c.loop-call.invariant.answers

pub returns-clause-after : goal.returns-clause-after
returns-clause-after g c =
    let none : length c.loop-call.call-iterator.rest.items ≡ 0 = search rules in
    after_ends c.loop-call.self _ c.loop-call.call-iterator.rest.items none c.loop-call.invariant.after
