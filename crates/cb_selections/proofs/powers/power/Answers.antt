use Rattle.std.proofs.Common.{◌≡◌, ◌≤◌, sym, ap, ◌∙◌, arith}
use Rattle.std.proofs.lemmas.Result.{IfOk-weaker}
use Rattle.cb_matrix.specs.Sparse.{Sparse}
use Rattle.cb_matrix.specs.Values.{product}
use Rattle.cb_operations.specs.SelectionAnswers.{power}
use Rattle.cb_selections.proofs.PowerSteps.{power_columns, one_factor, two_factors, next_factor}
use Rattle.cb_selections.proofs.powers.power.Goals as goal

pub returns-then-factors-eq1 : goal.returns-then-factors-eq1
returns-then-factors-eq1 g c =
    let s = g.S.Semiring.arithmetic in
    let a = c.args.block.now in
    IfOk-weaker c.try_clone.result (λ m. m ≡ a) (λ m. m ≡ power s a c.args.factors) (λ m is. is ∙ one_factor s a c.args.factors c.if-factors-eq1.true) c.try_clone.ensures

pub loop-init : goal.loop-init
loop-init g c = record { some = omega arith; product = c.in_ok-product.ensures ∙ two_factors g.S.Semiring.arithmetic c.args.block.now }

pub multiply-requires-in-loop : goal.multiply-requires-in-loop
multiply-requires-in-loop g c =
    ap (λ (m : Sparse). m.shape.cols) c.loop.invariant.product ∙ power_columns g.S.Semiring.arithmetic c.args.block.now _ ∙ sym c.requires.square

pub loop-preserved : goal.loop-preserved
loop-preserved g c =
    let s = g.S.Semiring.arithmetic in
    let a = c.args.block.now in
    record {
      some = omega arith;
      product = c.in_ok-product-2.ensures ∙ ap (λ m. product s m a) c.loop.invariant.product ∙ next_factor s a c.loop.counter c.loop.invariant.some;
    }

pub returns : goal.returns
returns g c =
    let low = c.requires.some in
    let other = c.if-factors-eq1.false in
    let two : 2 ≤ c.args.factors = omega arith in
    let end = c.loop.auto.counter-end two in
    let past = c.loop-test.false in
    let e : c.loop.counter ≡ c.args.factors = omega arith in
    c.loop.invariant.product ∙ ap (power g.S.Semiring.arithmetic c.args.block.now) e
