use Rattle.cb_job_computations.specs.ComputedTexts.{IsEndOver}
use Rattle.cb_job_output.proofs.WrittenAnswers.{written}
use Rattle.cb_job_computations.proofs.named_computations.put_computation.Goals as goal

pub returns : goal.returns
unfolding IsEndOver
returns g c = written _ _ _ _ _ _ _ _ c.in_ok-answer.ensures c.put_answer.ensures
