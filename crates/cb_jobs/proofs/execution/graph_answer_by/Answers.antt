use Rattle.std.proofs.Common.{Some, subst}
use Rattle.cb_semirings.specs.Tables.{min_plus}
use Rattle.cb_job_output.specs.Answers.{IsAnsweredOn}
use Rattle.cb_job_graphs.specs.GraphTasks.{IsGraphAnswer}
use Rattle.cb_jobs.specs.Answers.{IsGraphFaultBy}
use Rattle.cb_jobs.proofs.execution.graph_answer_by.Goals as goal

pub returns-in-Some : goal.returns-in-Some
returns-in-Some g c =
    let engine = c.in-Some.ranks.engine in
    rw (← c.in-Some.ensures.engine) (subst (λ q. IsAnsweredOn (IsGraphAnswer c.args.task) (IsGraphFaultBy (Some engine) q c.args.task) min_plus c.args.texts.items c.ranks_graph_answer.result) c.in-Some.ensures.side c.ranks_graph_answer.ensures)
