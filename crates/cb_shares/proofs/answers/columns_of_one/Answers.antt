use Rattle.std.proofs.Common.{◌≡◌, [], ◌∷◌, ap, subst, ◌∙◌}
use Rattle.std.specs.Prelude.{IfOk}
use Rattle.cb_matrix.specs.Sparse.{Sparse}
use Rattle.cb_operations.specs.Computations.{answer_of}
use Rattle.cb_shares.specs.Shares.{columns_from}
use Rattle.cb_shares.proofs.ByColumns.{one_columns}
use Rattle.cb_shares.proofs.answers.columns_of_one.Goals as goal

pub returns-then-is_by_columns : goal.returns-then-is_by_columns
returns-then-is_by_columns g c =
    let s = g.S.Semiring.arithmetic in
    let o = c.args.computation in
    let a = c.args.a.now in
    let cs = columns_from c.args.first c.args.end in
    let part = c.block.ensures ∙ c.in_ok-part.ensures.columns in
    let law = one_columns s g.met.S.Semiring.is_semiring cs a c.in_ok-part.ensures.matrix o c.requires.count (c.is_by_columns.ensures c.if-is_by_columns.true) c.requires.suits in
    subst (λ (m : Sparse). IfOk c.unary.result (λ n. n ≡ m)) (ap (λ (m : Sparse). answer_of o s (m ∷ [])) part ∙ law) c.unary.ensures
