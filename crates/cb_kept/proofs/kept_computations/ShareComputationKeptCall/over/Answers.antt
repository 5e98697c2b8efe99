use Rattle.std.proofs.Common.{rules, ◌<◌, length, subst}
use Rattle.cb_operations.specs.Computations.{answer_of}
use Rattle.cb_operations.specs.OperationAnswers.{matrix_at}
use Rattle.cb_operations.specs.Operands.{lent_in}
use Rattle.cb_kept.proofs.Firsts.{computed_fault, none_of_computed}
use Rattle.cb_kept.proofs.KeptFirsts.{first_matrix, some_operand}
use Rattle.cb_kept.proofs.WholeColumns.{AreInside, inside_answer, keeps_columns}
use Rattle.cb_kept.proofs.kept_computations.ShareComputationKeptCall.over.Goals as goal

pub returns-in_err-block : goal.returns-in_err-block
returns-in_err-block g c =
    let fault = computed_fault c.args.self.now.call g.S.Semiring.arithmetic (lent_in c.args.operands.now) in
    search rules

pub returns : goal.returns
returns g c =
    let s = g.S.Semiring.arithmetic in
    let ms = lent_in c.args.operands.now in
    let call = c.args.self.now.call in
    let some = some_operand call in
    let one : 0 < length c.args.operands.now = search rules in
    let first = first_matrix c.args.operands.now c.index-operands-0.result c.index-operands-0.is one in
    let inside : AreInside (matrix_at ms 0) = subst AreInside first c.shape.ensures.matrix.inside in (
      none_of_computed call s ms c.in_ok-block.ensures.suits,
      keeps_columns g.S.Keep.name (answer_of call s ms) c.in_ok-block.block c.args.self.now.first c.args.self.now.end c.keep_block.result (inside_answer call s ms inside) c.in_ok-block.ensures.ok c.keep_block.ensures.keeps,
    )
