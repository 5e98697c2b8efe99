use Rattle.std.proofs.Common.{rules, ◌≡◌, ◌∙◌, map}
use Rattle.cb_rank_work.specs.Slots.{adding, after_all}
use Rattle.cb_rank_work.proofs.AddedProducts.{sum_inside}
use Rattle.cb_rank.proofs.ProductsInTurn.{may_be_added, added_in_turn}
use Rattle.cb_rank.proofs.operations.operate_all.Goals as goal

pub returns-clause-done : goal.returns-clause-done
returns-clause-done g c =
    let s = g.S.Semiring.arithmetic in
    let acc = c.args.acc in
    let slots = c.args.store.now in
    let products = c.args.products.now in
    let may = may_be_added slots acc products c.requires.each (c.is_any_lost.ensures c.if-is_any_lost.false) in
    λ yes.
    let done : c.accumulate_all.new.store ≡ after_all s (map (adding acc) products) slots = search rules in
    done ∙ added_in_turn s acc products slots (sum_inside slots acc products c.requires.size c.requires.some may) may
