use Rattle.std.proofs.Common.{◌++◌, ◌∙◌, sym, ap}
use Rattle.cb_plan.specs.Checks.{fault_from, slots_in, lanes_in}
use Rattle.cb_plan.specs.Closings.{closings}
use Rattle.cb_plan.specs.Programs.{project_from}
use Rattle.cb_plan.proofs.ProjectionSteps.{no_fault_at_start}
use Rattle.cb_plan.proofs.checks.CheckedPlan.project.Goals as goal

pub append_halves-requires-clause-sound : goal.append_halves-requires-clause-sound
append_halves-requires-clause-sound c =
    let o = c.in_ok-state.state in
    let is = rw (c.ranks.ensures.ranks, c.starts.ensures.starts) at c.in_ok-state.ensures in
    let acts = ap (λ n. c.stored-closes.result.0.now ++ closings n c.stored-closes.result.1) is.ranks_are ∙ sym c.stored-closes.ensures.acts in
    ap (fault_from o.ranks 0 (slots_in o.slots) (lanes_in o.shut)) acts ∙ no_fault_at_start c.args.self.now o c.stored-closes.ensures.checked is

pub returns-clause-program : goal.returns-clause-program
returns-clause-program c =
    let o = c.in_ok-state.state in
    let r = c.args.rank in
    let is = rw (c.ranks.ensures.ranks, c.starts.ensures.starts) at c.in_ok-state.ensures in
    let stored = c.stored-closes.result.0.now in
    let closes = c.stored-closes.result.1 in
    let acts = ap (λ n. stored ++ closings n closes) is.ranks_are ∙ sym c.stored-closes.ensures.acts in
    c.in_ok-append_halves.ensures
    ∙ ap (λ xs. xs ++ project_from (slots_in o.slots) (stored ++ closings o.ranks closes) r) c.new-halves.ensures.items
    ∙ ap (λ xs. project_from (slots_in o.slots) xs r) acts
    ∙ ap (λ slots. project_from slots c.args.self.now.acts r) is.slots
