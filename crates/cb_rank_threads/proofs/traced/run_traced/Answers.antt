use Rattle.std.proofs.Common.{rules, ◌≡◌, true}
use Rattle.cb_rank_threads.proofs.TracedLogs.{has_program}
use Rattle.cb_rank_threads.proofs.traced.run_traced.Goals as goal

pub returns-clause-trace : goal.returns-clause-trace
returns-clause-trace g c =
    let matched : c.matches.result ≡ true = search rules in
    has_program c.args.plan.now _ _ c.in_ok-finished.ensures.lists (rw c.deref.ensures.value at (c.matches.ensures.0 matched))
