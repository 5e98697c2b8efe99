use Rattle.std.proofs.Common.{subst}
use Rattle.std.proofs.lemmas.Result.{err_from_is_err_and}
use Rattle.cb_job_inputs.specs.Inputs.{IsFirstReadFault, IsThirdOf}
use Rattle.cb_job_inputs.proofs.OperandLemmas.{three_read}
use Rattle.cb_job_inputs.proofs.ReadFaults.{same_by}
use Rattle.cb_job_inputs.proofs.operands.read_operands.Goals as goal

pub returns-in-Some-clause-ok : goal.returns-in-Some-clause-ok
returns-in-Some-clause-ok g c =
    let s = g.S.Semiring.arithmetic in
    let ts = c.args.texts.items in
    let read = c.in_ok-left in
    let third = subst (IsThirdOf s ts) c.in-Some.is read.ensures.third in
    three_read s ts read.left.matrix read.right.matrix c.in-Some.mask.matrix third.0 read.ensures.first read.ensures.second third.1

pub returns-in_err-left-clause-fault : goal.returns-in_err-left-clause-fault
returns-in_err-left-clause-fault g c =
    let p = err_from_is_err_and c.from_residual-in_err-left.result c.from_residual-in_err-left.ensures.1 in
    rw (p.1, p.2) (subst (λ by. IsFirstReadFault by c.args.texts.items c.in_err-left.field-0.0) (same_by g.S.Semiring.arithmetic) c.in_err-left.ensures.fault)
