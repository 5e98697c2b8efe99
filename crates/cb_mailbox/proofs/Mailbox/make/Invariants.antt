use Rattle.std.proofs.Common.{◌≡◌, ◌+◌, ◌≤◌, ◌++◌, All, length, vec_len, vec_capacity}
use Rattle.cb_mailbox.specs.Run.{IsPostable, answers_to, after_all}
use Rattle.cb_mailbox.proofs.Mailbox.make.Given as goal

abbrev pub invariant-loop-call : goal.invariant-loop-call
invariant-loop-call g l =
    let rest = l.call-iterator.rest.items in record {
      answers : l.answers.items ++ answers_to l.self rest ≡ answers_to l.fn.self l.fn.calls.items;
      after : after_all l.self rest ≡ after_all l.fn.self l.fn.calls.items;
      postable : All IsPostable rest;
      room : vec_len l.answers + length rest ≤ vec_capacity l.answers;
    }
