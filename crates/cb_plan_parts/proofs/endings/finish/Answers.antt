use Rattle.std.proofs.Common.{rules, ◌≡◌, ◌*◌, ◌<◌, ◌++◌, sym, ap, subst, ◌∙◌}
use Rattle.std.specs.Prelude.{All}
use Rattle.cb_plan.specs.declared.acts.Start.{Start}
use Rattle.cb_plan.specs.Checks.{plan_fault}
use Rattle.cb_plan_parts.specs.Collectives.{shut_acts}
use Rattle.cb_plan_parts.specs.Appends.{IsRefusal}
use Rattle.cb_plan_parts.proofs.Flows.{flows_check}
use Rattle.cb_plan_parts.proofs.LoopGrowth.{only_memory}
use Rattle.cb_plan_parts.proofs.endings.finish.Goals as goal

pub returns-in_err-shut_all-clause-fault : goal.returns-in_err-shut_all-clause-fault
returns-in_err-shut_all-clause-fault c =
    let q = c.args.grid.now.side in
    let plan = c.args.plan in
    let h = only_memory plan (shut_acts (q * q)) c.in_err-shut_all.field-0.0 c.requires.limit (subst (λ n. IsRefusal plan (shut_acts n) c.in_err-shut_all.field-0.0) c.requires.ranks c.in_err-shut_all.ensures.faults) in
    let g = c.from_residual.ensures in
    search rules

pub returns-clause-acts : goal.returns-clause-acts
returns-clause-acts c = c.in_ok-shut_all.ensures.acts ∙ ap (λ n. c.args.plan.acts ++ shut_acts n) c.requires.ranks

pub returns-clause-runnable : goal.returns-clause-runnable
returns-clause-runnable c =
    let q = c.args.grid.now.side in
    let starts = c.args.starts.items in
    let now = c.shut_all.new.plan in
    let ranks : now.ranks ≡ q * q = c.in_ok-shut_all.ensures.ranks ∙ c.requires.ranks in
    record {
      exist = subst (λ n. All (λ (s : Start). (s.rank < n) × (s.slot < 256)) starts) (sym ranks) c.requires.exist;
      once = c.requires.once;
      no_fault = ap (λ n. plan_fault n starts now.acts) ranks
          ∙ ap (plan_fault (q * q) starts) (c.in_ok-shut_all.ensures.acts ∙ ap (λ n. c.args.plan.acts ++ shut_acts n) c.requires.ranks)
          ∙ flows_check (q * q) starts c.args.plan.acts c.requires.flows;
      result = c.requires.slot;
    }
