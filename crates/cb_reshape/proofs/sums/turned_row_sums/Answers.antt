use Rattle.std.proofs.Common.{◌≡◌, ap, ◌∙◌}
use Rattle.std.proofs.lemmas.Result.{IfOk-weaker}
use Rattle.cb_matrix.specs.Operations.{transposed, column_sums, row_sums}
use Rattle.cb_reshape.proofs.TurnedSums.{turned_sums}
use Rattle.cb_reshape.proofs.sums.turned_row_sums.Goals as goal

pub returns : goal.returns
returns g c =
    let s = g.S.Semiring.arithmetic in
    let a = c.args.block.now in
    IfOk-weaker c.transpose-2.result (λ m. m ≡ transposed s c.in_ok-sums.sums) (λ m. m ≡ row_sums s a)
    (λ m is. is ∙ ap (transposed s) (c.in_ok-sums.ensures ∙ ap (column_sums s) c.in_ok-turned.ensures) ∙ turned_sums s a) c.transpose-2.ensures
