use Rattle.std.proofs.Common.{◌≡◌, ◌∙◌, ap, subst, ℕ, List, [], ◌∷◌, ◌++◌}
use Rattle.cb_matrix.specs.Sparse.{Extent}
use Rattle.cb_searches.specs.Numbers.{AreNumbers}
use Rattle.cb_searches.proofs.SearchRounds.{reaching_begun}
use Rattle.cb_searches.proofs.breadth_first.breadth_first.Goals as goal

pub make_rounds-requires-clause-turned : goal.make_rounds-requires-clause-turned
make_rounds-requires-clause-turned c = record { matrix = c.shape-shape.ensures.matrix; square = c.requires.square; is = c.requires.turned }

pub make_rounds-requires-clause-reaching : goal.make_rounds-requires-clause-reaching
make_rounds-requires-clause-reaching c =
    let a = c.args.graph.now in
    let made = c.in_ok-known in
    let rows : c.rows-2.result ≡ a.shape.rows = c.rows-2.ensures.value ∙ ap (λ (e : Extent). e.rows) c.shape-shape.ensures.shape in
    (c.args.source, c.requires.source, reaching_begun a c.args.source made.known c.push.new.self.items (subst (λ (n : ℕ). AreNumbers n made.known) rows made.ensures.numbers) made.ensures.here made.ensures.there (c.in_ok-push.ensures.items ∙ ap (λ (xs : List ℕ). xs ++ c.args.source ∷ []) c.in_ok-queue.ensures.items))

pub returns-clause-levels : goal.returns-clause-levels
returns-clause-levels c =
    let a = c.args.graph.now in
    let made = c.in_ok-known in
    let rows : c.rows-2.result ≡ a.shape.rows = c.rows-2.ensures.value ∙ ap (λ (e : Extent). e.rows) c.shape-shape.ensures.shape in
    c.in_ok-make_rounds.ensures.levels c.args.source c.requires.source
    (reaching_begun a c.args.source made.known c.push.new.self.items (subst (λ (n : ℕ). AreNumbers n made.known) rows made.ensures.numbers) made.ensures.here made.ensures.there (c.in_ok-push.ensures.items ∙ ap (λ (xs : List ℕ). xs ++ c.args.source ∷ []) c.in_ok-queue.ensures.items))
