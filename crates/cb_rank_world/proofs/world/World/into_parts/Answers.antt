-- All is done, so the world is finished, and what its ranks leave holds what its plan means.
use Rattle.cb_rank_world.proofs.LastState.{finishes, leaves}
use Rattle.cb_rank_world.proofs.world.World.into_parts.Goals as goal

pub returns-clause-finished : goal.returns-clause-finished
returns-clause-finished g c =
    let done = rw (← c.self.view_is) at c.requires in
    rw (← c.self.view_is) (finishes _ _ c.self.invariant.0 done)

pub returns-clause-meaning : goal.returns-clause-meaning
returns-clause-meaning g c =
    let done = rw (← c.self.view_is) at c.requires in
    rw (← c.self.view_is) (leaves _ _ c.self.invariant.0 done _ _ c.parts_of.ensures.stores c.parts_of.ensures.refusals)
