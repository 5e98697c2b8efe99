use Rattle.std.proofs.Common.{sym, subst, refl, arith, IfOk, IfErr}
use Rattle.std.proofs.lemmas.Result.{err_from_is_err_and}
use Rattle.cb_market_lines.specs.Reads.{Reads}
use Rattle.cb_job_inputs.specs.Inputs.{IsMatrixText, IsTextFault, arithmetic_at}
use Rattle.cb_job_ends.specs.Texts.{text_at}
use Rattle.cb_job_inputs.proofs.OperandLemmas.{at_first, text_count, text_taken}
use Rattle.cb_job_inputs.proofs.ReadFaults.{fault_at}
use Rattle.cb_job_inputs.proofs.inputs.read_both.Goals as goal

pub returns-in_err-right-clause-fault : goal.returns-in_err-right-clause-fault
returns-in_err-right-clause-fault g c =
    let by = arithmetic_at g.S.Semiring.arithmetic g.T.Semiring.arithmetic in
    let ts = c.args.texts.now.items in
    let two = c.requires in
    let count = text_count c.args.texts.now _ refl in
    let left = c.in_ok-left.field-0.matrix in
    let first = text_taken c.args.texts.now 0 ts c.remove-first.result (omega arith) refl c.remove-first.ensures.value in
    let second = text_taken c.args.texts.now 1 c.remove-first.new.self.items c.remove-second.result (omega arith) c.remove-first.ensures.items c.remove-second.ensures.value in
    let reads = subst (λ r. IfOk r (λ m. Reads (by 0) c.remove-first.result m.matrix)) c.in_ok-left.was c.read_at_once-left.ensures.first in
    let before = at_first (λ i. IsMatrixText (by i) (text_at ts i)) (left, subst (λ t. Reads (by 0) t left) (sym first) reads) in
    let fault = subst (λ r. IfErr r (IsTextFault (by 1) 1 c.remove-second.result)) c.in_err-right.was c.read_at_once-left.ensures.second_fault in
    let p = err_from_is_err_and c.from_residual-in_err-right.result c.from_residual-in_err-right.ensures.1 in
    rw (p.1, p.2) (fault_at by ts 1 (omega arith) before c.remove-second.result second c.in_err-right.field-0.0 fault)

pub returns-in_err-right-2-clause-fault : goal.returns-in_err-right-2-clause-fault
returns-in_err-right-2-clause-fault g c =
    let by = arithmetic_at g.S.Semiring.arithmetic g.T.Semiring.arithmetic in
    let ts = c.args.texts.now.items in
    let two = c.requires in
    let count = text_count c.args.texts.now _ refl in
    let left = c.in_ok-left-2.left.matrix in
    let first = text_taken c.args.texts.now 0 ts c.remove-first.result (omega arith) refl c.remove-first.ensures.value in
    let second = text_taken c.args.texts.now 1 c.remove-first.new.self.items c.remove-second.result (omega arith) c.remove-first.ensures.items c.remove-second.ensures.value in
    let reads = c.in_ok-left-2.ensures.ok in
    let before = at_first (λ i. IsMatrixText (by i) (text_at ts i)) (left, subst (λ t. Reads (by 0) t left) (sym first) reads) in
    let fault = c.in_err-right-2.ensures.fault in
    let p = err_from_is_err_and c.from_residual-in_err-right-2.result c.from_residual-in_err-right-2.ensures.1 in
    rw (p.1, p.2) (fault_at by ts 1 (omega arith) before c.remove-second.result second c.in_err-right-2.field-0.0 fault)
