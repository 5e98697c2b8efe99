use Rattle.std.proofs.Common.{◌≡◌, ◌∙◌, ℕ, List, length, sym, ap, subst}
use Rattle.std.specs.Vec.{with_items}
use Rattle.std.proofs.lemmas.List.{with_items_is}
use Rattle.cb_matrix.specs.Sparse.{Extent}
use Rattle.cb_searches.specs.declared.numbers.Numbers.{Numbers}
use Rattle.cb_searches.specs.Numbers.{number_at, listed_at, AreNumbers}
use Rattle.cb_searches.specs.BreadthFirst.{AreLevelsWithin}
use Rattle.cb_searches.proofs.LevelRounds.{begun}
use Rattle.cb_searches.proofs.UpRounds.{list_levels, list_reaching}
use Rattle.cb_searches.proofs.breadth_first.turn_when_it_pays.Goals as goal

pub returns-in_default-rounds_up-clause-numbers : goal.returns-in_default-rounds_up-clause-numbers
returns-in_default-rounds_up-clause-numbers c =
    let a = c.args.graph.now in
    let source = c.args.source in
    let rows : c.rows-2.result ≡ a.shape.rows = c.rows-2.ensures.value ∙ ap (λ (e : Extent). e.rows) c.shape-shape.ensures.shape in
    let before = subst (AreNumbers c.rows-2.result) c.in-Dense.is c.in_ok-known.ensures.numbers in
    let first = subst (λ (k : Numbers). AreLevelsWithin a source 0 (number_at k)) c.in-Dense.is (begun a source (number_at c.in_ok-known.known) c.in_ok-known.ensures.here c.in_ok-known.ensures.there) in
    let from = subst (λ (xs : List ℕ). AreLevelsWithin a source 0 (listed_at xs)) (sym c.deref_mut.ensures.value) first in
    let new = c.rounds_up.new.list in
    let long : length new ≡ a.shape.rows = c.rounds_up.ensures.length ∙ ap length c.deref_mut.ensures.value ∙ before.0 ∙ rows in
    (list_levels a source new long (c.in_default-rounds_up.ensures.ended source from) (with_items c.in-Dense.list new) (with_items_is c.in-Dense.list new (c.rounds_up.ensures.length ∙ c.deref_mut.ensures.len))).0

pub returns-in_default-rounds_up-clause-levels : goal.returns-in_default-rounds_up-clause-levels
returns-in_default-rounds_up-clause-levels c =
    let a = c.args.graph.now in
    let source = c.args.source in
    let rows : c.rows-2.result ≡ a.shape.rows = c.rows-2.ensures.value ∙ ap (λ (e : Extent). e.rows) c.shape-shape.ensures.shape in
    let before = subst (AreNumbers c.rows-2.result) c.in-Dense.is c.in_ok-known.ensures.numbers in
    let first = subst (λ (k : Numbers). AreLevelsWithin a source 0 (number_at k)) c.in-Dense.is (begun a source (number_at c.in_ok-known.known) c.in_ok-known.ensures.here c.in_ok-known.ensures.there) in
    let from = subst (λ (xs : List ℕ). AreLevelsWithin a source 0 (listed_at xs)) (sym c.deref_mut.ensures.value) first in
    let new = c.rounds_up.new.list in
    let long : length new ≡ a.shape.rows = c.rounds_up.ensures.length ∙ ap length c.deref_mut.ensures.value ∙ before.0 ∙ rows in
    (list_levels a source new long (c.in_default-rounds_up.ensures.ended source from) (with_items c.in-Dense.list new) (with_items_is c.in-Dense.list new (c.rounds_up.ensures.length ∙ c.deref_mut.ensures.len))).1

pub make_rounds-requires-clause-reaching : goal.make_rounds-requires-clause-reaching
make_rounds-requires-clause-reaching c =
    let a = c.args.graph.now in
    let source = c.args.source in
    let k = c.in-Some.rounds in
    let rows : c.rows-2.result ≡ a.shape.rows = c.rows-2.ensures.value ∙ ap (λ (e : Extent). e.rows) c.shape-shape.ensures.shape in
    let before = subst (AreNumbers c.rows-2.result) c.in-Dense.is c.in_ok-known.ensures.numbers in
    let first = subst (λ (k : Numbers). AreLevelsWithin a source 0 (number_at k)) c.in-Dense.is (begun a source (number_at c.in_ok-known.known) c.in_ok-known.ensures.here c.in_ok-known.ensures.there) in
    let from = subst (λ (xs : List ℕ). AreLevelsWithin a source 0 (listed_at xs)) (sym c.deref_mut.ensures.value) first in
    let new = c.rounds_up.new.list in
    let read = c.deref.result.now in
    let same : read ≡ new = c.deref.ensures.value ∙ with_items_is c.in-Dense.list new (c.rounds_up.ensures.length ∙ c.deref_mut.ensures.len) in
    let long : length read ≡ a.shape.rows = ap length same ∙ c.rounds_up.ensures.length ∙ ap length c.deref_mut.ensures.value ∙ before.0 ∙ rows in
    let rounds = subst (λ (xs : List ℕ). AreLevelsWithin a source k (listed_at xs)) (sym same) (c.in-Some.ensures.left source from) in
    (source, c.requires.source, list_reaching a source k read c.queue_reached.new.queue.items long rounds c.in_ok-queue_reached.ensures.near c.in_ok-queue_reached.ensures.all _ (sym c.deref.ensures.value))

pub returns-clause-levels : goal.returns-clause-levels
returns-clause-levels c =
    let a = c.args.graph.now in
    let source = c.args.source in
    let k = c.in-Some.rounds in
    let rows : c.rows-2.result ≡ a.shape.rows = c.rows-2.ensures.value ∙ ap (λ (e : Extent). e.rows) c.shape-shape.ensures.shape in
    let before = subst (AreNumbers c.rows-2.result) c.in-Dense.is c.in_ok-known.ensures.numbers in
    let first = subst (λ (k : Numbers). AreLevelsWithin a source 0 (number_at k)) c.in-Dense.is (begun a source (number_at c.in_ok-known.known) c.in_ok-known.ensures.here c.in_ok-known.ensures.there) in
    let from = subst (λ (xs : List ℕ). AreLevelsWithin a source 0 (listed_at xs)) (sym c.deref_mut.ensures.value) first in
    let new = c.rounds_up.new.list in
    let read = c.deref.result.now in
    let same : read ≡ new = c.deref.ensures.value ∙ with_items_is c.in-Dense.list new (c.rounds_up.ensures.length ∙ c.deref_mut.ensures.len) in
    let long : length read ≡ a.shape.rows = ap length same ∙ c.rounds_up.ensures.length ∙ ap length c.deref_mut.ensures.value ∙ before.0 ∙ rows in
    let rounds = subst (λ (xs : List ℕ). AreLevelsWithin a source k (listed_at xs)) (sym same) (c.in-Some.ensures.left source from) in
    c.in_ok-make_rounds.ensures.levels source c.requires.source
    (list_reaching a source k read c.queue_reached.new.queue.items long rounds c.in_ok-queue_reached.ensures.near c.in_ok-queue_reached.ensures.all _ (sym c.deref.ensures.value))
