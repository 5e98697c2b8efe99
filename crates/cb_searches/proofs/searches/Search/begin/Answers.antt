use Rattle.std.proofs.Common.{ℕ, ◌<◌, ◌∙◌, sym, subst, ap}
use Rattle.cb_matrix.specs.Sparse.{Extent}
use Rattle.cb_searches.specs.Numbers.{AreNumbers}
use Rattle.cb_searches.proofs.NearestRounds.{search_begun}
use Rattle.cb_searches.proofs.searches.Search.begin.Goals as goal

pub returns : goal.returns
returns c = λ a is same square.
    let rows = ap (λ (e : Extent). e.rows) same in
    search_begun a c.args.source (record { known = c.in_ok-known.known; fell = c.in_ok-fell.fell }) is square (subst (λ (n : ℕ). c.args.source < n) (sym rows) c.requires)
    c.in_ok-known.ensures.here c.in_ok-known.ensures.there (subst (λ (n : ℕ). AreNumbers n c.in_ok-known.known) (c.rows.ensures.value ∙ ap (λ (e : Extent). e.rows) c.column_shape-shape.ensures ∙ sym rows) c.in_ok-known.ensures.numbers)
    (c.in_ok-fell.ensures.shape ∙ c.column_shape-shape.ensures ∙ ap (λ n. record { rows = n; cols = 1 }) (sym rows)) c.in_ok-fell.ensures.values
