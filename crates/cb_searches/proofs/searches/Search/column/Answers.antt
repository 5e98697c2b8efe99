use Rattle.std.proofs.Common.{◌≡◌, ℕ, sym, ap, ◌∙◌, subst}
use Rattle.std.proofs.lemmas.Result.{IfOk-weaker}
use Rattle.cb_semirings.specs.Tables.{min_plus}
use Rattle.cb_matrix.specs.Sparse.{Sparse, Extent, at}
use Rattle.cb_searches.specs.Numbers.{number_at, AreNumbers}
use Rattle.cb_searches.specs.Searches.{HasEnded, IsSearch}
use Rattle.cb_searches.specs.Walks.{AreDistances}
use Rattle.cb_searches.proofs.NearestRounds.{both, search_ended}
use Rattle.cb_searches.proofs.searches.Search.column.Goals as goal

pub column-requires-clause-column : goal.column-requires-clause-column
column-requires-clause-column c = ap (λ (e : Extent). e.cols) (c.shape.ensures.shape ∙ c.requires.search.3.shape)

pub column-requires-clause-numbers : goal.column-requires-clause-numbers
column-requires-clause-numbers c = subst (λ (e : Extent). AreNumbers e.rows c.args.self.now.known) (sym (c.shape.ensures.shape ∙ c.requires.search.3.shape)) c.requires.search.3.numbers

pub returns : goal.returns
returns c =
    let search = c.args.self.now in
    IfOk-weaker c.column.result (λ (m : Sparse). (m.shape ≡ c.shape.result) × ((v : ℕ) → at min_plus m v 0 ≡ number_at search.known v)) (λ (column : Sparse). (a : Sparse) (source k : ℕ) → IsSearch a source k search → HasEnded a k search → AreDistances a source column)
    (λ column h a source k is ended. search_ended a source k search is column (h.0 ∙ c.shape.ensures.shape) h.1 ended)
    (both c.column.result (λ (m : Sparse). m.shape ≡ c.shape.result) (λ (m : Sparse). (v : ℕ) → at min_plus m v 0 ≡ number_at search.known v) c.column.ensures.shape c.column.ensures.values)
