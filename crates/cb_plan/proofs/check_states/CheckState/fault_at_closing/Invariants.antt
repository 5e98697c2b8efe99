use Rattle.cb_plan.specs.Checks.{fault_from, slots_in, lanes_in}
use Rattle.cb_plan.specs.Closings.{shut_acts}
use Rattle.cb_plan.proofs.ClosingSteps.{HasClosedTo, senders_left, lanes_left}
use Rattle.cb_plan.proofs.check_states.CheckState.fault_at_closing.Given as goal

abbrev pub invariant-loop-from : goal.invariant-loop-from
invariant-loop-from l =
    HasClosedTo l.ranks (slots_in l.self.slots) (lanes_in l.self.shut) (fault_from l.ranks l.fn.number (slots_in l.self.slots) (lanes_in l.self.shut) (shut_acts l.ranks)) l.from 0 l.number (senders_left l.ranks l.from)

abbrev pub invariant-loop-to : goal.invariant-loop-to
invariant-loop-to l =
    HasClosedTo l.ranks (slots_in l.self.slots) (lanes_in l.self.shut) (fault_from l.ranks l.fn.number (slots_in l.self.slots) (lanes_in l.self.shut) (shut_acts l.ranks)) l.from l.to l.number (lanes_left l.ranks l.from l.to)
