use Rattle.cb_job_output.proofs.WrittenAnswers.{written}
use Rattle.cb_job_graphs.proofs.graph_tasks.execute_graph_task.Goals as goal

pub returns : goal.returns
returns g c = written _ _ _ _ _ _ _ _ c.in_ok-answer.ensures c.put_answer.ensures
