use Rattle.std.proofs.Common.{◌++◌}
use Rattle.cb_plan.specs.Checks.{slots_in}
use Rattle.cb_plan.specs.Closings.{closings}
use Rattle.cb_plan.specs.Programs.{Projects, project_from}
use Rattle.cb_plan.proofs.check_states.CheckState.append_halves.Given as goal

abbrev pub invariant-loop-act : goal.invariant-loop-act
invariant-loop-act l =
    let all = l.fn.acts ++ closings l.fn.self.ranks l.closes in
    Projects l.fn.self.ranks all l.rank l.act-index l.self l.halves.items (l.fn.halves.items ++ project_from (slots_in l.fn.self.slots) all l.rank)
