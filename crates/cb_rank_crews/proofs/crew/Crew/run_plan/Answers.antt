use Rattle.std.proofs.Common.{rules, ◌<◌, ◌^◌}
use Rattle.cb_rank_runs.proofs.Crews.{still_opening}
use Rattle.cb_rank_runs.proofs.FinishedCrew.{ends_all, few_refused, holds_all}
use Rattle.cb_rank_runs.proofs.NamedRanks.{gone_is_rank, least_gone}
use Rattle.cb_rank_crews.proofs.crew.Crew.run_plan.Goals as goal

pub finish-requires-clause-opening : goal.finish-requires-clause-opening
finish-requires-clause-opening g c = still_opening g.S.Semiring.arithmetic c.args.plan.now c.args.stores.items c.in_ok-crew.crew.items c.in-Ok.done.items c.in_ok-crew.ensures.crew c.in-Ok.ensures.ran

pub finish-requires-clause-few : goal.finish-requires-clause-few
finish-requires-clause-few g c =
    let few : c.args.plan.now.ranks < 2 ^ 16 = search rules in
    few_refused g.S.Semiring.arithmetic c.args.plan.now c.args.stores.items c.in_ok-crew.crew.items c.in-Ok.done.items c.in_ok-crew.ensures.crew c.in-Ok.ensures.ran few

pub returns-in-Ok-clause-meaning : goal.returns-in-Ok-clause-meaning
returns-in-Ok-clause-meaning g c =
    let few : c.args.plan.now.ranks < 2 ^ 16 = search rules in
    ends_all g.S.Semiring.arithmetic c.args.plan.now c.args.stores.items c.in_ok-crew.crew.items c.in-Ok.done.items c.in_ok-crew.ensures.crew c.in-Ok.ensures.ran _ c.ranks-ranks.ensures.checked few c.requires.fits c.finish.ensures

pub returns-in-Ok-clause-lanes : goal.returns-in-Ok-clause-lanes
returns-in-Ok-clause-lanes g c = holds_all g.S.Semiring.arithmetic c.args.plan.now c.args.stores.items c.in_ok-crew.crew.items c.in-Ok.done.items c.in_ok-crew.ensures.crew c.in-Ok.ensures.ran c.args.capacity _ c.in_ok-crew.ensures.lanes c.finish.ensures

pub returns-in-Err-clause-fault : goal.returns-in-Err-clause-fault
returns-in-Err-clause-fault g c = gone_is_rank g.S.Semiring.arithmetic c.args.plan.now c.args.stores.items c.in_ok-crew.crew.items c.in-Err.number c.in_ok-crew.ensures.crew c.in-Err.ensures.gone

pub returns-in-Err-clause-least : goal.returns-in-Err-clause-least
returns-in-Err-clause-least g c = least_gone g.S.Semiring.arithmetic c.args.plan.now c.args.stores.items c.in_ok-crew.crew.items c.in-Err.number c.in_ok-crew.ensures.crew c.in-Err.ensures.gone
