use Rattle.std.proofs.Common.{sym, subst, ◌∙◌}
use Rattle.std.specs.Prelude.{All}
use Rattle.std.proofs.lemmas.List.{take_all}
use Rattle.std.proofs.lemmas.List.Elements.{All-more}
use Rattle.cb_rank.specs.AddedProducts.{HasNoneLost}
use Rattle.cb_rank.proofs.ProductsInTurn.{none_of_test}
use Rattle.cb_rank.proofs.operations.is_any_lost.Goals as goal

pub loop-pair-preserved : goal.loop-pair-preserved
loop-pair-preserved g c =
    let products = c.args.products.now in
    let i = c.loop-pair.pair-index in
    All-more (HasNoneLost c.args.store.now c.args.acc) products i (0, 0) c.loop-pair-test.true c.loop-pair.invariant
    (sym c.first_lost.ensures ∙ none_of_test c.first_lost.result (sym c.if-is_some.ensures))

pub returns : goal.returns
returns g c = λ none. subst (λ ps. All (HasNoneLost c.args.store.now c.args.acc) ps) (take_all c.loop-pair.pair-index c.args.products.now c.loop-pair-test.false) c.loop-pair.invariant
