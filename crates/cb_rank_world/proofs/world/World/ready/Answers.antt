-- None of the ranks that were asked can act, so all are done.
use Rattle.std.proofs.Common.{arith}
use Rattle.cb_rank_world.proofs.NoDeadlock.{someone_acts}
use Rattle.cb_rank_world.proofs.world.World.ready.Goals as goal

pub returns-clause-ready : goal.returns-clause-ready
returns-clause-ready g c =
    let sound = c.self.invariant.0 in
    let none = rw (← c.self.view_is) at c.loop-r.invariant in
    let few = sound.few in
    let size = sound.sizes.0 in
    let long = c.self.inside.ranks.ok.0 in
    let e = c.len-r-end.ensures in
    rw (← c.self.view_is) (someone_acts _ _ sound (λ q h. none q (omega arith)))
