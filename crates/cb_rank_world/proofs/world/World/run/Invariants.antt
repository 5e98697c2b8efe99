use Rattle.std.proofs.Common.{take}
use Rattle.cb_rank_world.specs.WorldSteps.{RunsBy}
use Rattle.cb_rank_world.proofs.world.World.run.Given as goal

abbrev pub invariant-loop-event : goal.invariant-loop-event
invariant-loop-event g l = RunsBy g.S.Semiring.arithmetic (take l.event-index l.events) l.fn.self l.self
