use Rattle.cb_job_output.proofs.WrittenAnswers.{written}
use Rattle.cb_jobs.proofs.job_computations.put_computation.Goals as goal

pub returns : goal.returns
returns g c = written _ _ _ _ _ _ _ _ c.in_ok-answer.ensures c.put_answer.ensures
