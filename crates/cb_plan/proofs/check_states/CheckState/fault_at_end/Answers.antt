use Rattle.std.proofs.Common.{◌∙◌, sym, refl}
use Rattle.cb_plan.proofs.CheckSteps.{fault_end}
use Rattle.cb_plan.specs.Checks.{slots_in, lanes_in}
use Rattle.cb_plan.proofs.check_states.CheckState.fault_at_end.Goals as goal

pub returns-then-is_all_shut : goal.returns-then-is_all_shut
returns-then-is_all_shut c =
    let o = c.args.self.now in sym (fault_end o.ranks c.args.number (slots_in o.slots) (lanes_in o.shut) ∙ rw (sym c.is_all_shut.ensures ∙ c.if-is_all_shut.true) refl)

pub returns-else-is_all_shut : goal.returns-else-is_all_shut
returns-else-is_all_shut c =
    let o = c.args.self.now in sym (fault_end o.ranks c.args.number (slots_in o.slots) (lanes_in o.shut) ∙ rw (sym c.is_all_shut.ensures ∙ c.if-is_all_shut.false) refl)
