use Rattle.std.proofs.lemmas.Result.{IfOk-weaker}
use Rattle.cb_shares.proofs.SumShares.{column_is}
use Rattle.cb_shares.proofs.sums.column_of_sums.Goals as goal

pub returns : goal.returns
returns g c =
    IfOk-weaker c.column_of_list.result _ _
    (λ m is. column_is g.S.Semiring.arithmetic g.met.S.Semiring.is_semiring c.args.shape c.args.sums.now m c.requires.column c.requires.length is) c.column_of_list.ensures
