use Rattle.std.proofs.Common.{◌≤◌, vec_capacity}
use Rattle.cb_rank_world.proofs.Boxes.{AreFirstBoxes}
use Rattle.cb_rank_world.proofs.ends.Ends.open.Given as goal

abbrev pub invariant-loop-rank : goal.invariant-loop-rank
invariant-loop-rank g l = AreFirstBoxes l.ranks l.capacity l.rank l.boxes.items × (l.ranks ≤ vec_capacity l.boxes)
