use Rattle.std.proofs.Common.{◌<◌, ◌∙◌, ap, sym, arith, length}
use Rattle.std.proofs.lemmas.Result.{IfOk-weaker}
use Rattle.cb_matrix.specs.Sparse.{Sparse, Extent}
use Rattle.cb_operations.specs.Computations.{answer_of}
use Rattle.cb_operations.specs.Operands.{lent_in}
use Rattle.cb_panels.proofs.ResultColumns.{cols_by_columns, some_by_columns, first_operand, cols_of_three, all_ends}
use Rattle.cb_panels.proofs.computations.range_ends.Goals as goal

pub returns-then-is_by_columns : goal.returns-then-is_by_columns
returns-then-is_by_columns g c =
    let s = g.S.Semiring.arithmetic in
    let o = c.args.computation in
    let xs = c.args.operands.now in
    let by = c.is_by_columns.ensures c.if-is_by_columns.true in
    let count = c.requires.count in
    let least = some_by_columns o by in
    let some : 0 < length xs = omega (arith, count, least) in
    let cols = c.cols-cols.ensures.value ∙ ap (λ (d : Extent). d.cols) c.shape.ensures.shape ∙ ap (λ (m : Sparse). m.shape.cols) (first_operand xs c.index-operands-0.result some c.index-operands-0.is) in
    let same = cols_by_columns s o (lent_in xs) by ∙ sym cols in
    IfOk-weaker c.ends_by_entries.result _ _ (λ ends are _. all_ends c.args.panels.most c.cols-cols.result (answer_of o s (lent_in xs)).shape.cols ends.items are same) c.ends_by_entries.ensures

pub returns-in-len3 : goal.returns-in-len3
returns-in-len3 g c =
    let s = g.S.Semiring.arithmetic in
    let o = c.args.computation in
    let xs = c.args.operands.now in
    let b = c.b-item-then-operands-lt4.result in
    let same = cols_of_three s o xs b c.in-len3.len_at_least c.requires.count c.b-item-then-operands-lt4.is in
    IfOk-weaker c.ends_of_product.result _ _ (λ ends are _. all_ends (length ends.items) b.now.shape.cols (answer_of o s (lent_in xs)).shape.cols ends.items are same) c.ends_of_product.ensures
