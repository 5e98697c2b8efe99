use Rattle.std.proofs.lemmas.Result.{on_ok_weaker}
use Rattle.cb_shares.proofs.BorrowedMatrices.{two, three}
use Rattle.cb_shares.proofs.answers.check.Goals as goal

pub returns-in-len2-clause-matrices : goal.returns-in-len2-clause-matrices
returns-in-len2-clause-matrices g c =
    let all = two g.S.Semiring.arithmetic c.args.operands.now c.a-item-then-operands-lt3.result c.b-item.result c.in-len2.len_at_least c.in-len2.len_below c.a-item-then-operands-lt3.is c.b-item.is c.shape-in-len2.ensures.matrix c.shape-in-len2-2.ensures.matrix in
    on_ok_weaker c.check-in-len2.result (λ _. all) c.check-in-len2.ensures.ok

pub returns-in-len3-clause-matrices : goal.returns-in-len3-clause-matrices
returns-in-len3-clause-matrices g c =
    let all = three g.S.Semiring.arithmetic c.args.operands.now c.a-item-then-operands-lt4.result c.b-item-then-operands-lt4.result c.c-item.result c.in-len3.len_at_least c.in-len3.len_below c.a-item-then-operands-lt4.is c.b-item-then-operands-lt4.is c.c-item.is c.shape-in-len3.ensures.matrix c.shape-in-len3-2.ensures.matrix c.shape-in-len3-3.ensures.matrix in
    on_ok_weaker c.check-in-len3.result (λ _. all) c.check-in-len3.ensures.ok
