use Rattle.std.proofs.Common.{rules, refl}
use Rattle.cb_rank_runs.proofs.LoggedEvents.{new_more}
use Rattle.cb_rank_runs.proofs.logs.Log.open.Goals as goal

pub loop-rank-preserved : goal.loop-rank-preserved
loop-rank-preserved g c = record {
  count = search rules;
  end = c.loop-rank.invariant.end;
  new = rw c.push_reserved.ensures.items (new_more c.loop-rank.logs.items _ c.loop-rank.invariant.new refl c.in_ok-with_capacity.ensures.items);
  room = search rules;
}
