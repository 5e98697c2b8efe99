use Rattle.std.proofs.Common.{ap, ◌∙◌}
use Rattle.std.proofs.lemmas.Result.{IfOk-weaker}
use Rattle.cb_matrix.specs.Sparse.{Sparse}
use Rattle.cb_product.proofs.OnlyColumns.{only_all, only_in}
use Rattle.cb_shares.specs.Shares.{columns_from, panel}
use Rattle.cb_shares.proofs.sums.columns_in_one.Goals as goal

pub returns-clause-columns : goal.returns-clause-columns
returns-clause-columns g c =
    let m = c.args.matrix.now in
    let cs = columns_from c.args.first c.args.end in
    let some : Sparse = panel m c.args.first c.args.end in
    IfOk-weaker c.columns_between.result _ _
    (λ part is. ap (λ (x : Sparse). panel x c.args.first c.args.end) is ∙ only_all cs some (only_in cs m)) c.columns_between.ensures.columns
