use Rattle.std.proofs.Common.{ℕ, ◌<◌}
use Rattle.cb_rank_world.specs.Worlds.{CanAct}
use Rattle.cb_rank_world.proofs.world.World.ready.Given as goal

abbrev pub invariant-loop-r : goal.invariant-loop-r
invariant-loop-r g l = (q : ℕ) → q < l.r → ¬ CanAct l.self q
