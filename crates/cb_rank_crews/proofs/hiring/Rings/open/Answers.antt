use Rattle.std.proofs.Common.{rules}
use Rattle.cb_rank_crews.proofs.NewRings.{one_ring_more}
use Rattle.cb_rank_crews.proofs.hiring.Rings.open.Goals as goal

pub loop-preserved : goal.loop-preserved
loop-preserved g c = record {
  count = search rules;
  new = rw c.in_ok-push.ensures.items (one_ring_more _ _ c.loop.invariant.new (c.in_ok-new.ensures.pair, c.in_ok-new.ensures.producer.0, c.in_ok-new.ensures.consumer.0));
}
