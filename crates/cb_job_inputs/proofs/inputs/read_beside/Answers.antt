use Rattle.std.proofs.Common.{ℕ, ◌<◌, ap, arith, length, length-drop, rules, vec_len}
use Rattle.std.proofs.lemmas.Result.{err_from_is_err_and}
use Rattle.cb_job_inputs.specs.Inputs.{IsMatrixText, arithmetic_at}
use Rattle.cb_job_ends.specs.Texts.{text_at}
use Rattle.cb_job_inputs.proofs.OperandLemmas.{at_first, text_taken, up_to}
use Rattle.cb_job_inputs.proofs.ReadFaults.{fault_at}
use Rattle.cb_job_inputs.proofs.inputs.read_beside.Goals as goal

pub returns-in_err-third-clause-fault : goal.returns-in_err-third-clause-fault
returns-in_err-third-clause-fault g c =
    let by = arithmetic_at g.S.Semiring.arithmetic g.T.Semiring.arithmetic in
    let ts = c.args.texts.items in
    let both = c.in_ok-first in
    let left : 0 < vec_len c.read_both.new.texts = search rules in
    let inside : 2 < length ts = omega (arith, length-drop 2 ts, ap length both.ensures.rest, c.read_both.new.texts.ok.0, left) in
    let count = c.args.texts.ok.0 in
    let third = text_taken c.args.texts 2 c.read_both.new.texts.items c.remove-text.result (omega (arith, inside, count)) both.ensures.rest c.remove-text.ensures.value in
    let read : ℕ → Type 0 = λ i. IsMatrixText (by i) (text_at ts i) in
    let before = up_to read 1 (at_first read (both.first.matrix, both.ensures.first)) (both.second.matrix, both.ensures.second) in
    let p = err_from_is_err_and c.from_residual-in_err-third.result c.from_residual-in_err-third.ensures.1 in
    rw (p.1, p.2) (fault_at by ts 2 inside before c.remove-text.result third c.in_err-third.field-0.0 c.in_err-third.ensures.fault)
