use Rattle.std.proofs.Common.{◌≡◌, length}
use Rattle.cb_rank_crews.specs.Rings.{AreNewRings}
use Rattle.cb_rank_crews.proofs.hiring.Rings.open.Given as goal

abbrev pub invariant-loop : goal.invariant-loop
invariant-loop g l = record {
  count : length l.ends.items ≡ l.counter;
  new : AreNewRings l.ends.items;
}
