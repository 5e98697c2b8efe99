use Rattle.cb_mailbox.proofs.Balance.{all_balanced}
use Rattle.cb_mailbox.proofs.Legality.{run_legal}
use Rattle.cb_mailbox.specs.Inbox.{HasLanes}
use Rattle.cb_mailbox.proofs.Exchanges.{taken_once, for_addressee, in_posting_order, nothing_after_close, given_out}
use Rattle.cb_mailbox.proofs.Mailbox.run.Goals as goal

pub returns-clause-once : goal.returns-clause-once
returns-clause-once g c =
    let lanes : HasLanes c.args.self.now = rw (← c.self.view_is) c.self.invariant.2 in
    rw (c.make.ensures.after, c.make.ensures.answers) (taken_once c.args.self.now c.args.calls.items lanes)

pub returns-clause-addressee : goal.returns-clause-addressee
returns-clause-addressee g c =
    let lanes : HasLanes c.args.self.now = rw (← c.self.view_is) c.self.invariant.2 in
    rw c.make.ensures.answers (for_addressee c.args.self.now c.args.calls.items lanes)

pub returns-clause-order : goal.returns-clause-order
returns-clause-order g c =
    let lanes : HasLanes c.args.self.now = rw (← c.self.view_is) c.self.invariant.2 in
    rw (c.make.ensures.after, c.make.ensures.answers) (in_posting_order c.args.self.now c.args.calls.items lanes)

pub returns-clause-closed : goal.returns-clause-closed
returns-clause-closed g c =
    let lanes : HasLanes c.args.self.now = rw (← c.self.view_is) c.self.invariant.2 in
    rw c.make.ensures.answers (nothing_after_close c.args.self.now c.args.calls.items lanes)

pub returns-clause-drained : goal.returns-clause-drained
returns-clause-drained g c =
    let lanes : HasLanes c.args.self.now = rw (← c.self.view_is) c.self.invariant.2 in
    rw (c.make.ensures.after, c.make.ensures.answers) (given_out c.args.self.now c.args.calls.items lanes)

pub returns-clause-lanes : goal.returns-clause-lanes
returns-clause-lanes g c = rw c.make.ensures.after (all_balanced c.args.self.now c.args.calls.items)

pub returns-clause-legal : goal.returns-clause-legal
returns-clause-legal g c = λ new. run_legal c.args.self.now c.args.calls.items c.requires new
