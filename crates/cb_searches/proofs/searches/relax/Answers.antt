use Rattle.std.proofs.Common.{◌≡◌, ◌≤◌, ℕ, ◌∙◌, List, length, sym, ap, subst}
use Rattle.std.specs.Prelude.{All, OnOk}
use Rattle.std.proofs.lemmas.List.{with_items_is}
use Rattle.cb_searches.specs.declared.numbers.Numbers.{Numbers}
use Rattle.cb_searches.specs.Walks.{infinite}
use Rattle.cb_searches.specs.Numbers.{number_at, listed_at, reached_by, AreLeast, AreNumbers}
use Rattle.cb_searches.proofs.FallenNumbers.{made}
use Rattle.cb_searches.proofs.searches.relax.Goals as goal

pub returns-then-len-clause-finite : goal.returns-then-len-clause-finite
returns-then-len-clause-finite c =
    let n = c.args.edges.now.shape.rows in
    let before = subst (λ (k : Numbers). AreNumbers n k) c.in-Dense.is c.requires.finite in
    let same = c.relax_list.ensures.length ∙ ap length c.deref_mut.ensures.value in
    subst (λ (xs : List ℕ). OnOk c.relax_list.result ((length xs ≡ n) × All (λ x. x ≤ infinite) xs)) (sym (with_items_is c.in-Dense.list c.relax_list.new.list (c.relax_list.ensures.length ∙ c.deref_mut.ensures.len)))
    (made c.relax_list.result (same ∙ before.0, c.relax_list.ensures.values))

pub returns-then-len-clause-least : goal.returns-then-len-clause-least
returns-then-len-clause-least c =
    let result = c.relax_list.result in
    let reached = reached_by c.args.edges.now c.args.fell.now in
    let new = c.relax_list.new.list in
    let items = with_items_is c.in-Dense.list new (c.relax_list.ensures.length ∙ c.deref_mut.ensures.len) in
    let listed = subst (λ (xs : List ℕ). OnOk result (AreLeast (listed_at xs) reached (listed_at new))) c.deref_mut.ensures.value c.relax_list.ensures.least in
    let known = subst (λ (k : Numbers). OnOk result (AreLeast (number_at k) reached (listed_at new))) (sym c.in-Dense.is) listed in
    subst (λ (xs : List ℕ). OnOk result (AreLeast (number_at c.args.known.now) reached (listed_at xs))) (sym items) known
