use Rattle.std.proofs.Common.{◌≡◌, ◌++◌, ◌∙◌, sym, ap}
use Rattle.cb_plan.specs.Checks.{fault_from, slots_in, lanes_in}
use Rattle.cb_plan.specs.Closings.{closings}
use Rattle.cb_plan.proofs.CheckSteps.{from_start}
use Rattle.cb_plan.proofs.checks.first_fault.Goals as goal

pub fault_among-requires : goal.fault_among-requires
fault_among-requires c =
    let ranks : c.in_ok-state.state.ranks ≡ c.args.plan.now.ranks = c.in_ok-state.ensures.ranks_are ∙ c.ranks.ensures in
    rw (ranks, sym c.stored-closes.ensures.acts) c.stored-closes.ensures.limit

pub returns : goal.returns
returns c =
    let plan = c.args.plan.now in
    let o = c.in_ok-state.state in
    let ranks : o.ranks ≡ plan.ranks = c.in_ok-state.ensures.ranks_are ∙ c.ranks.ensures in
    let acts = ap (λ n. c.stored-closes.result.0.now ++ closings n c.stored-closes.result.1) ranks ∙ sym c.stored-closes.ensures.acts in
    from_start plan.ranks c.args.starts.now plan.acts o _ (rw c.ranks.ensures at c.in_ok-state.ensures) (c.fault_among.ensures ∙ ap (fault_from o.ranks 0 (slots_in o.slots) (lanes_in o.shut)) acts)
