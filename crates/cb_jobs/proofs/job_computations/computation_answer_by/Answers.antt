use Rattle.cb_jobs.proofs.job_computations.computation_answer_by.Goals as goal

pub returns-in-Some-Operation : goal.returns-in-Some-Operation
returns-in-Some-Operation g c =
    rw (c.in-Some-Operation.is-1, ← c.in-Some-Operation.ensures.engine, ← c.in-Some-Operation.ensures.side) c.ranks_answer.ensures
