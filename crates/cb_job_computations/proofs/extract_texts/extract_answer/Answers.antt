use Rattle.std.proofs.lemmas.Result.{err_from_is_err_and}
use Rattle.cb_job_computations.proofs.ListFaults.{unlisted}
use Rattle.cb_job_computations.proofs.extract_texts.extract_answer.Goals as goal

pub returns-in_err-part : goal.returns-in_err-part
returns-in_err-part g c =
    let read = c.in_ok-matrix in
    let p = err_from_is_err_and c.from_residual-in_err-part.result c.from_residual-in_err-part.ensures.1 in
    rw (p.1, p.2) (unlisted c.args.lists g.S.Semiring.arithmetic c.args.texts.items read.matrix read.rows read.columns read.ensures.ok c.in_err-part.field-0.0 c.in_err-part.ensures.fault)
