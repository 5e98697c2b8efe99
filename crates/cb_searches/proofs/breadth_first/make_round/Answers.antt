use Rattle.std.proofs.Common.{◌≡◌, ◌∙◌, ℕ, List, length, sym, ap, subst}
use Rattle.std.proofs.lemmas.List.{with_items_is}
use Rattle.cb_searches.specs.declared.numbers.Numbers.{Numbers}
use Rattle.cb_searches.specs.Numbers.{number_at, listed_at, AreNumbers}
use Rattle.cb_searches.specs.BreadthFirst.{AreLevelsWithin}
use Rattle.cb_searches.proofs.UpRounds.{list_reaching}
use Rattle.cb_searches.proofs.breadth_first.make_round.Goals as goal

pub returns-then-pays_up-clause-reaching : goal.returns-then-pays_up-clause-reaching
returns-then-pays_up-clause-reaching c source is =
    let a = c.args.graph.now in
    let k = c.args.rounds in
    let new = c.up_while_many.new.list in
    let made = c.in_ok-made.ensures in
    let before = subst (AreNumbers a.shape.rows) c.in-Dense.is is.numbers in
    let rounds = subst (λ (n : Numbers). AreLevelsWithin a source k (number_at n)) c.in-Dense.is is.rounds in
    let listed = made.rounds source (subst (λ (xs : List ℕ). AreLevelsWithin a source k (listed_at xs)) (sym c.deref_mut.ensures.value) rounds) in
    let long : length new ≡ a.shape.rows = c.up_while_many.ensures.length ∙ ap length c.deref_mut.ensures.value ∙ before.0 in
    list_reaching a source c.in_ok-made.made new c.up_while_many.new.queue.items long listed made.near made.all _ (with_items_is c.in-Dense.list new (c.up_while_many.ensures.length ∙ c.deref_mut.ensures.len))
