use Rattle.std.proofs.Common.{sym, subst}
use Rattle.cb_operations.specs.Operands.{list_of}
use Rattle.cb_rank_operations.specs.Outcomes.{wholes}
use Rattle.cb_jobs.specs.Answers.{IsRanksFaultOver}
use Rattle.cb_jobs.proofs.RankFaults.{of_run}
use Rattle.cb_jobs.proofs.job_computations.outcome_of.Goals as goal

pub returns-in-Err-clause-fault : goal.returns-in-Err-clause-fault
returns-in-Err-clause-fault g c =
    let s = g.S.Semiring.arithmetic in
    let engine = c.args.ranks.now.engine in
    let side = c.args.ranks.now.grid.side in
    let bytes = c.args.texts.items in
    let told = of_run c.args.operation s engine side bytes (wholes (list_of c.in_ok-operands.operands)) c.in-Err.fault c.in_ok-operands.ensures.ok c.in-Err.ensures.fault c.in-Err.ensures.lost in
    subst (λ f. IsRanksFaultOver c.args.operation s engine side bytes f) (sym c.job_fault.ensures) told
