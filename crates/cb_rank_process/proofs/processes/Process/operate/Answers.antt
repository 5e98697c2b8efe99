use Rattle.std.proofs.Common.{rules, ap}
use Rattle.std.proofs.lemmas.Result.{err_from_is_err_and}
use Rattle.cb_rank_process.specs.Processes.{IsFree, ProcessView}
use Rattle.cb_rank_process.proofs.BegunOperations.{begins, brings_answer, never_begins, operates_on}
use Rattle.cb_rank_process.proofs.RunnablePlans.{can_run}
use Rattle.cb_rank_process.proofs.processes.Process.operate.Goals as goal

pub into_checked-plan-requires : goal.into_checked-plan-requires
into_checked-plan-requires g c = can_run c.args.operation _ _ _ c.in_ok-planned.ensures

pub returns-in_err-begin-clause-fault : goal.returns-in_err-begin-clause-fault
returns-in_err-begin-clause-fault g c =
    let free : IsFree c.args.self.now = search rules in
    let e = c.from_residual-in_err-begin in
    let p = err_from_is_err_and e.result e.ensures.1 in
    rw (p.1, p.2)
    (never_begins c.args.operation c.args.self.now _ _ _ _ _ _ _ _ _ _ free c.operand_count-count.ensures.count c.in_ok-shapes.ensures.shapes c.deref-2.ensures.value (ap (λ (v : ProcessView). v.side) c.self.view_is) c.in_ok-planned.ensures
    c.into_checked-plan.ensures.plan c.into_checked-plan.ensures.slot c.in_ok-store.ensures.slots c.in_ok-store.ensures.same c.in_err-begin.ensures.fault)

pub returns-clause-begins : goal.returns-clause-begins
returns-clause-begins g c =
    let free : IsFree c.args.self.now = search rules in
    begins c.args.operation c.args.self.now _ _ _ _ _ _ _ _ _ _ _ _ _ free c.operand_count-count.ensures.count c.in_ok-shapes.ensures.shapes c.in_ok-shapes.ensures.filled c.deref.ensures.value c.in-Some.ensures.agree c.in-Some.ensures.shape
    c.deref-2.ensures.value (ap (λ (v : ProcessView). v.side) c.self.view_is) c.in_ok-planned.ensures c.into_checked-plan.ensures.plan c.into_checked-plan.ensures.slot c.in_ok-store.ensures.slots c.in_ok-store.ensures.same
    c.in_ok-begin.ensures.started c.give_up_first.ensures

pub returns-clause-on : goal.returns-clause-on
returns-clause-on g c =
    operates_on c.args.operation c.args.self.now g.S.Semiring.arithmetic c.give_up_first.new.self (returns-clause-begins g c)

pub returns-clause-brings : goal.returns-clause-brings
returns-clause-brings g c =
    brings_answer c.args.operation c.args.self.now g.S.Semiring.arithmetic g.met.S.Semiring.is_semiring c.give_up_first.new.self (returns-clause-begins g c)
