use Rattle.std.proofs.Common.{◌≡◌, subst}
use Rattle.std.proofs.lemmas.Result.{err_from_is_err_and}
use Rattle.cb_matrix.specs.Sparse.{Extent}
use Rattle.cb_operations.specs.Graphs.{beside_of}
use Rattle.cb_graphs.specs.GraphAnswers.{IsAnswerOf, IsFaultOf, IsTaken, OperandValue}
use Rattle.cb_kept.specs.declared.kept.Kept.{Kept}
use Rattle.cb_kept.specs.Kept.{Keeps, semiring_of}
use Rattle.cb_kept_graphs.specs.KeptGraphs.{operand_faults, operand_of}
use Rattle.cb_kept_graphs.proofs.KeptGraphFaults.{computed_on, kept_answer, operand_fault, other_semiring, uncomputed_on}
use Rattle.cb_kept_graphs.proofs.answer_over.Goals as goal

pub returns-in_err-panels : goal.returns-in_err-panels
returns-in_err-panels g c =
    let name = g.S.Keep.name in
    let p = err_from_is_err_and c.from_residual.result c.from_residual.ensures.1 in
    let mixed = c.in_err-panels.ensures.fault in
    rw (p.1, p.2) (rw mixed.0 (other_semiring name c.args.task c.args.graph.now c.args.sources.now c.args.values.now
    (subst (λ (k : Kept). semiring_of k ≡ name → ⊥) c.matrix.ensures mixed.1)))

pub returns-in_err-operand : goal.returns-in_err-operand
returns-in_err-operand g c =
    let task = c.args.task in
    let values = c.args.values.now in
    let f = c.in_err-operand.field-0.0 in
    let m = c.in_ok-panels.panels.now in
    let keeps = subst (λ (k : Kept). Keeps g.S.Keep.name m k) c.matrix.ensures c.in_ok-panels.ensures.panels in
    let fault = subst (λ (d : Extent). operand_faults task d values (λ _. ⊥) f) c.shape.ensures.shape c.in_err-operand.ensures.fault in
    let p = err_from_is_err_and c.from_residual-in_err-operand.result c.from_residual-in_err-operand.ensures.1 in
    rw (p.1, p.2) (operand_fault g.S.Keep.name task c.args.graph.now c.args.sources.now values m f keeps fault)

pub returns-in_err-answer : goal.returns-in_err-answer
returns-in_err-answer g c =
    let task = c.args.task in
    let f = c.in_err-answer.field-0.0 in
    let m = c.in_ok-panels.panels.now in
    let keeps = subst (λ (k : Kept). Keeps g.S.Keep.name m k) c.matrix.ensures c.in_ok-panels.ensures.panels in
    let operand = operand_of (beside_of task) c.args.sources.now c.args.values.now in
    let fault : IsFaultOf task m.shape operand f =
    subst (λ (o : OperandValue). IsFaultOf task m.shape o f) {y = operand} c.in_ok-operand.ensures.operand c.in_err-answer.ensures.fault in
    let p = err_from_is_err_and c.from_residual-in_err-answer.result c.from_residual-in_err-answer.ensures.1 in
    rw (p.1, p.2) (uncomputed_on g.S.Keep.name task c.args.graph.now c.args.sources.now c.args.values.now m f keeps c.in_ok-operand.ensures.over fault)

pub returns : goal.returns
returns g c =
    let s = g.S.Semiring.arithmetic in
    let name = g.S.Keep.name in
    let task = c.args.task in
    let graph = c.args.graph.now in
    let sources = c.args.sources.now in
    let values = c.args.values.now in
    let answer = c.in_ok-answer.answer in
    let m = c.in_ok-panels.panels.now in
    let operand = operand_of (beside_of task) sources values in
    let keeps = subst (λ (k : Kept). Keeps name m k) c.matrix.ensures c.in_ok-panels.ensures.panels in
    let is = c.in_ok-operand.ensures.operand in
    let taken = subst (λ (o : OperandValue). IsTaken task m.shape o) {y = operand} is c.in_ok-answer.ensures.taken in
    let right = subst (λ (o : OperandValue). IsAnswerOf s task m o answer) {y = operand} is c.in_ok-answer.ensures.ok in (
      computed_on name task graph sources values m keeps c.in_ok-operand.ensures.over taken,
      (answer, kept_answer s name task graph m operand answer c.requires.named keeps right, c.keep_answer.ensures),
    )
