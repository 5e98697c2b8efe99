use Rattle.std.proofs.Common.{rules, ◌<◌, ◌^◌, ap, subst}
use Rattle.std.proofs.lemmas.List.Elements.{length_all_zip}
use Rattle.cb_rank_runs.specs.Crews.{Ran}
use Rattle.cb_rank_runs.proofs.Crews.{still_opening}
use Rattle.cb_rank_runs.proofs.FinishedCrew.{ends_all, few_refused, holds_all}
use Rattle.cb_rank_runs.proofs.OtherRanks.{err_is}
use Rattle.cb_rank_runs.specs.NamedRanks.{IsFaultOf, NamesLeast}
use Rattle.cb_rank_threads.specs.ThreadFaults.{told_as}
use Rattle.cb_rank_threads.specs.ToldCrews.{HaveToldPlan}
use Rattle.cb_rank_threads.proofs.RanksInFaults.{is_fault_of, names_least}
use Rattle.cb_rank_threads.proofs.ToldThreads.{tells_plan}
use Rattle.cb_rank_threads.proofs.threads.run_told.Goals as goal

pub finish-requires-clause-room : goal.finish-requires-clause-room
finish-requires-clause-room g c =
    let same = length_all_zip (Ran g.S.Semiring.arithmetic) _ _ c.in_ok-done.ensures.ran in
    let count = c.in_ok-crew.ensures.crew.count in
    (search rules, search rules, search rules)

pub finish-requires-clause-opening : goal.finish-requires-clause-opening
finish-requires-clause-opening g c = still_opening g.S.Semiring.arithmetic c.args.plan.now c.args.stores.items c.in_ok-crew.crew.items c.in_ok-done.done.items c.in_ok-crew.ensures.crew c.in_ok-done.ensures.ran

pub finish-requires-clause-few : goal.finish-requires-clause-few
finish-requires-clause-few g c =
    let few : c.args.plan.now.ranks < 2 ^ 16 = search rules in
    few_refused g.S.Semiring.arithmetic c.args.plan.now c.args.stores.items c.in_ok-crew.crew.items c.in_ok-done.done.items c.in_ok-crew.ensures.crew c.in_ok-done.ensures.ran few

pub returns-clause-meaning : goal.returns-clause-meaning
returns-clause-meaning g c =
    let few : c.args.plan.now.ranks < 2 ^ 16 = search rules in
    ends_all g.S.Semiring.arithmetic c.args.plan.now c.args.stores.items c.in_ok-crew.crew.items c.in_ok-done.done.items c.in_ok-crew.ensures.crew c.in_ok-done.ensures.ran _ c.ranks-ranks.ensures.checked few c.requires.fits c.finish.ensures

pub returns-clause-told : goal.returns-clause-told
returns-clause-told g c =
    let told = tells_plan g.T.Recorder.tells c.args.plan.now c.args.stores.items c.in_ok-crew.crew.items c.replace-unused.result.items c.in_ok-done.told.items c.in_ok-crew.ensures.crew c.in_ok-done.ensures.told in
    subst (λ olds. HaveToldPlan g.T.Recorder.tells c.args.plan.now olds c.in_ok-done.told.items) (ap (λ v. v.items) c.replace-unused.ensures.value) told

pub returns-clause-lanes : goal.returns-clause-lanes
returns-clause-lanes g c = holds_all g.S.Semiring.arithmetic c.args.plan.now c.args.stores.items c.in_ok-crew.crew.items c.in_ok-done.done.items c.in_ok-crew.ensures.crew c.in_ok-done.ensures.ran c.args.capacity _ c.in_ok-crew.ensures.lanes c.finish.ensures

pub returns-in_err-done-clause-fault : goal.returns-in_err-done-clause-fault
returns-in_err-done-clause-fault g c =
    let p = c.args.plan.now in
    let fault = is_fault_of g.S.Semiring.arithmetic p c.args.stores.items c.in_ok-crew.crew.items c.in_err-done.field-0.0 c.in_ok-crew.ensures.crew c.in_err-done.ensures.fault in
    err_is (IsFaultOf p.ranks) (told_as c.in_err-done.field-0.0) c.from_residual-in_err-done.result c.from_residual-in_err-done.ensures.1 fault

pub returns-in_err-done-clause-least : goal.returns-in_err-done-clause-least
returns-in_err-done-clause-least g c =
    let p = c.args.plan.now in
    let least = names_least g.S.Semiring.arithmetic p c.args.stores.items c.in_ok-crew.crew.items c.in_err-done.field-0.0 c.in_ok-crew.ensures.crew c.in_err-done.ensures.fault in
    err_is (NamesLeast g.S.Semiring.arithmetic p c.args.stores.items) (told_as c.in_err-done.field-0.0) c.from_residual-in_err-done.result c.from_residual-in_err-done.ensures.1 least
