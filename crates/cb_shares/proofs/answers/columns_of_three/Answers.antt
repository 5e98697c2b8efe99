use Rattle.std.proofs.Common.{◌≡◌, [], ◌∷◌, subst, ◌∙◌}
use Rattle.std.specs.Prelude.{IfOk}
use Rattle.cb_matrix.specs.Sparse.{Sparse, IsMatrix}
use Rattle.cb_operations.specs.Computations.{answer_of}
use Rattle.cb_shares.specs.Shares.{columns_from}
use Rattle.cb_shares.proofs.ByColumns.{three_columns}
use Rattle.cb_shares.proofs.answers.columns_of_three.Goals as goal

pub returns : goal.returns
returns g c =
    let s = g.S.Semiring.arithmetic in
    let o = c.args.computation in
    let a = c.args.a.now in
    let b = c.args.b.now in
    let m = c.args.mask.now in
    let is = subst (λ (n : Sparse). IsMatrix s n) (c.block-2.ensures ∙ c.in_ok-left.ensures) c.shape.ensures.matrix in
    let left = c.block-4.ensures ∙ c.in_ok-left.ensures in
    let right = c.block-5.ensures ∙ c.in_ok-right.ensures.columns in
    let allowed = c.block-6.ensures ∙ c.in_ok-allowed.ensures.columns in
    let law = three_columns s g.met.S.Semiring.is_semiring (columns_from c.args.first c.args.end) a is b c.in_ok-right.ensures.matrix m c.in_ok-allowed.ensures.matrix o c.requires.count in
    subst (λ (n : Sparse). IfOk c.ternary.result (λ k. k ≡ n)) ((λ i. answer_of o s (left i ∷ right i ∷ allowed i ∷ [])) ∙ law) c.ternary.ensures
