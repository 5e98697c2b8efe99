-- A rank that can act does a half, so less remains.
use Rattle.std.proofs.Common.{[], ◌∷◌, ◌++◌}
use Rattle.cb_rank_world.specs.declared.events.Event.TheVariants.{Step}
use Rattle.cb_rank_world.proofs.LaneNeeds.{acts_lower, run_keeps}
use Rattle.cb_rank_world.proofs.Changes.{finishes_run, finishes_more}
use Rattle.cb_rank_world.proofs.world.World.finish.Goals as goal

pub loop-r-smaller : goal.loop-r-smaller
loop-r-smaller g c = acts_lower _ _ _ c.in-Some.r _ c.in-Some.ensures.world c.in-Some.ensures.ready.0 c.step.ensures.step

pub loop-r-preserved : goal.loop-r-preserved
loop-r-preserved g c = (c.loop-r.invariant.0 ++ Step c.in-Some.r ∷ [], finishes_more _ c.loop-r.invariant.0 c.in-Some.r c.step.result _ _ _ c.loop-r.invariant.1 c.in-Some.ensures.ready c.step.ensures.step)

pub returns-clause-keeps : goal.returns-clause-keeps
returns-clause-keeps g c = run_keeps g.S.Semiring.arithmetic _ _ _ (finishes_run _ _ _ _ c.loop-r.invariant.1)
