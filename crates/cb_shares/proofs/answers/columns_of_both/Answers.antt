use Rattle.std.proofs.Common.{◌≡◌, [], ◌∷◌, subst, ◌∙◌}
use Rattle.std.specs.Prelude.{IfOk}
use Rattle.cb_matrix.specs.Sparse.{Sparse}
use Rattle.cb_operations.specs.Computations.{answer_of}
use Rattle.cb_shares.specs.Shares.{columns_from}
use Rattle.cb_shares.proofs.ByColumns.{two_columns}
use Rattle.cb_shares.proofs.answers.columns_of_both.Goals as goal

pub returns : goal.returns
returns g c =
    let s = g.S.Semiring.arithmetic in
    let o = c.args.computation in
    let cs = columns_from c.args.first c.args.end in
    let left = c.block.ensures ∙ c.in_ok-left.ensures.columns in
    let right = c.block-2.ensures ∙ c.in_ok-right.ensures.columns in
    let law = two_columns s g.met.S.Semiring.is_semiring cs c.args.a.now c.in_ok-left.ensures.matrix c.args.b.now c.in_ok-right.ensures.matrix o c.requires.count c.requires.by_columns in
    subst (λ (m : Sparse). IfOk c.binary.result (λ n. n ≡ m)) ((λ i. answer_of o s (left i ∷ right i ∷ [])) ∙ law) c.binary.ensures
