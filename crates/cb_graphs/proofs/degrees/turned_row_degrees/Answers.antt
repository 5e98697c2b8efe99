use Rattle.std.proofs.Common.{◌≡◌, ap, ◌∙◌}
use Rattle.std.proofs.lemmas.Result.{IfOk-weaker}
use Rattle.cb_graphs.specs.Degrees.{row_degrees, column_degrees}
use Rattle.cb_graphs.proofs.DegreeCounts.{turned_degrees}
use Rattle.cb_graphs.proofs.degrees.turned_row_degrees.Goals as goal

pub returns : goal.returns
returns g c =
    let s = g.S.Semiring.arithmetic in
    let a = c.args.block.now in
    IfOk-weaker c.column_degrees.result (λ m. m ≡ column_degrees s c.in_ok-turned.turned) (λ m. m ≡ row_degrees s a)
    (λ m is. is ∙ ap (column_degrees s) c.in_ok-turned.ensures ∙ turned_degrees s a) c.column_degrees.ensures
