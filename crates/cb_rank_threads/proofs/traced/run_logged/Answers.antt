use Rattle.cb_rank_threads.proofs.TracedLogs.{of_program}
use Rattle.cb_rank_threads.proofs.traced.run_logged.Goals as goal

pub returns-clause-lists : goal.returns-clause-lists
returns-clause-lists g c = of_program c.args.plan.now _ _ _ c.in_ok-logs.ensures.1 c.in_ok-finished.ensures.told c.in-Some.ensures.whole c.in-Some.ensures.lists
