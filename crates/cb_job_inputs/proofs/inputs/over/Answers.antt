use Rattle.std.proofs.Common.{subst}
use Rattle.std.proofs.lemmas.Result.{err_from_is_err_and}
use Rattle.cb_job_inputs.specs.Inputs.{IsTextRead}
use Rattle.cb_job_inputs.proofs.BaseTexts.{fault_too, read_too, refused_too}
use Rattle.cb_job_inputs.proofs.inputs.over.Goals as goal

pub returns-in_err-matrix : goal.returns-in_err-matrix
returns-in_err-matrix g c side text h =
    let s = g.S.Semiring.arithmetic in
    let base = g.S.Base.Semiring.arithmetic in
    let fault = subst (IsTextRead base side c.args.which text) c.in_err-matrix.was h in
    let p = err_from_is_err_and c.from_residual.result c.from_residual.ensures.1 in
    rw (p.1, p.2) (fault_too s base g.met.S.Based.has_base c.args.which text c.in_err-matrix.field-0.0 fault)

pub returns-in-Ok : goal.returns-in-Ok
returns-in-Ok g c side text h =
    let s = g.S.Semiring.arithmetic in
    let base = g.S.Base.Semiring.arithmetic in
    let read = subst (IsTextRead base side c.args.which text) c.in_ok-matrix.was h in
    read_too s base g.met.S.Based.has_base side c.args.which text c.in_ok-matrix.matrix c.in-Ok.matrix read c.in-Ok.ensures

pub returns-in-Err : goal.returns-in-Err
returns-in-Err g c side text h =
    let s = g.S.Semiring.arithmetic in
    let base = g.S.Base.Semiring.arithmetic in
    let read = subst (IsTextRead base side c.args.which text) c.in_ok-matrix.was h in
    refused_too s base g.met.S.Based.has_base side c.args.which text c.in_ok-matrix.matrix read
