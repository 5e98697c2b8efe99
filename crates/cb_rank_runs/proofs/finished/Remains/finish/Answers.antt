use Rattle.cb_rank_runs.proofs.FinishedCrew.{counted, left_by}
use Rattle.cb_rank_runs.proofs.finished.Remains.finish.Goals as goal

pub settle-lanes-requires : goal.settle-lanes-requires
settle-lanes-requires g c = rw c.take_from-stores.ensures.desks c.requires.opening

pub invariant_of-result : goal.invariant_of-result
invariant_of-result g c =
    let it = counted c.args.crew.items c.take_from-stores.result.stores.items c.take_from-stores.result.refusals.items c.take_from-stores.result.desks.items c.settle-lanes.result c.take_from-stores.ensures.stores c.take_from-stores.ensures.refusals c.take_from-stores.ensures.desks c.settle-lanes.ensures.ranks in
    record { ranks = it; fits = rw c.take_from-stores.ensures.refusals c.requires.few }

pub returns : goal.returns
returns g c = left_by c.args.crew.items c.take_from-stores.result.stores.items c.take_from-stores.result.refusals.items c.take_from-stores.result.desks.items c.settle-lanes.result c.take_from-stores.ensures.stores c.take_from-stores.ensures.refusals c.take_from-stores.ensures.desks c.settle-lanes.ensures.posted c.settle-lanes.ensures.taken c.settle-lanes.ensures.capacities c.settle-lanes.ensures.settled
