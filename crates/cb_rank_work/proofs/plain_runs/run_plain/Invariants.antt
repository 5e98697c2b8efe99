use Rattle.cb_rank_work.specs.Running.{Runs}
use Rattle.cb_rank_work.proofs.plain_runs.run_plain.Given as goal

abbrev pub invariant-loop-act : goal.invariant-loop-act
invariant-loop-act g l = Runs g.S.Semiring.arithmetic l.fn.plan.ranks l.fn.plan.acts l.act-index l.fn.stores.items l.stores.items
