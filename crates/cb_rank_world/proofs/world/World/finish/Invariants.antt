use Rattle.std.proofs.Common.{List}
use Rattle.cb_rank_world.specs.declared.events.Event.{Event}
use Rattle.cb_rank_world.specs.WorldSteps.{FinishesBy}
use Rattle.cb_rank_world.specs.Worlds.{remaining}
use Rattle.cb_rank_world.proofs.world.World.finish.Given as goal

abbrev pub invariant-loop-r : goal.invariant-loop-r
invariant-loop-r g l = (events : List Event) × FinishesBy g.S.Semiring.arithmetic events l.fn.self l.self

abbrev pub decreases-loop-r : goal.decreases-loop-r
decreases-loop-r g l = remaining l.self
