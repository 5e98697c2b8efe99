use Rattle.std.proofs.Common.{rules}
use Rattle.cb_rank_crews.specs.Crews.{given}
use Rattle.cb_rank_crews.specs.Backs.{was_given}
use Rattle.cb_rank_crews.proofs.Backs.{one_back}
use Rattle.cb_rank_crews.proofs.crew.wait_all.Goals as goal

pub loop-worker-preserved : goal.loop-worker-preserved
loop-worker-preserved g c = record {
  all = one_back (given {S = g.row.S.Denot} {J = g.row.J.Denot} {A = g.S.Semiring} {N = g.J.Naming}) was_given c.loop-worker.back.items c.push_reserved.new.self.items c.wait.result c.in-Some.worker c.next.new.self.rest.items c.loop-worker.worker-iterator.rest.items _ c.push_reserved.ensures.items c.wait.ensures c.in-Some.ensures.steps.0 c.loop-worker.invariant.all;
  room = search rules;
}
