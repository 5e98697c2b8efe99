use Rattle.std.proofs.Common.{◌≡◌, ◌++◌, drop}
use Rattle.cb_plan.specs.Checks.{fault_from, slots_in, lanes_in}
use Rattle.cb_plan.specs.Closings.{closings}
use Rattle.cb_plan.proofs.check_states.CheckState.fault_among.Given as goal

abbrev pub invariant-loop-act : goal.invariant-loop-act
invariant-loop-act l =
    let all = l.fn.acts ++ closings l.fn.self.ranks l.closes in
    (l.self.ranks ≡ l.fn.self.ranks) × (l.number ≡ l.act-index) × (fault_from l.fn.self.ranks l.act-index (slots_in l.self.slots) (lanes_in l.self.shut) (drop l.act-index all) ≡ fault_from l.fn.self.ranks 0 (slots_in l.fn.self.slots) (lanes_in l.fn.self.shut) all)
