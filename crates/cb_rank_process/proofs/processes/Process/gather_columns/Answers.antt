use Rattle.std.proofs.Common.{rules, ap}
use Rattle.std.proofs.lemmas.Result.{err_from_is_err_and}
use Rattle.cb_rank_process.specs.Processes.{IsFree, KeptView, ProcessView}
use Rattle.cb_rank_process.proofs.BegunOperations.{brings_panels, gathers, never_gathered}
use Rattle.cb_rank_process.proofs.processes.Process.gather_columns.Goals as goal

pub returns-in_err-begin-clause-fault : goal.returns-in_err-begin-clause-fault
returns-in_err-begin-clause-fault g c =
    let free : IsFree c.args.self.now = search rules in
    let e = c.from_residual-in_err-begin in
    let p = err_from_is_err_and e.result e.ensures.1 in
    rw (p.1, p.2)
    (never_gathered c.args.self.now _ _ c.args.register c.in-Some.kept.now _ c.in_ok-plan.plan _ _ _ free c.in-Some.ensures.some (ap (λ (k : KeptView). k.shape) c.kept-2.view_is) (ap (λ (v : ProcessView). v.side) c.self.view_is)
    c.in_ok-plan.ensures.ranks c.in_ok-plan.ensures.starts c.in_ok-store.ensures c.in_ok-lay.ensures.slots c.in_ok-lay.ensures.same c.in_err-begin.ensures.fault)

pub returns-clause-begins : goal.returns-clause-begins
returns-clause-begins g c =
    let free : IsFree c.args.self.now = search rules in
    gathers c.args.self.now _ _ _ _ c.args.register c.in-Some.kept.now _ _ _ _ _ free c.in-Some.ensures.some (ap (λ (k : KeptView). k.shape) c.kept-2.view_is) (ap (λ (v : ProcessView). v.side) c.self.view_is)
    c.in_ok-plan.ensures.ranks c.in_ok-plan.ensures.starts c.in_ok-plan.ensures.acts c.in_ok-plan.ensures.slot.0 c.in_ok-plan.ensures.panels c.in_ok-store.ensures c.in_ok-lay.ensures.slots c.in_ok-lay.ensures.same c.in_ok-begin.ensures.started c.give_up.ensures

pub returns-clause-brings : goal.returns-clause-brings
returns-clause-brings g c =
    brings_panels g.S.Semiring.arithmetic g.met.S.Semiring.is_semiring c.args.register c.args.self.now c.give_up.new.self (returns-clause-begins g c)
