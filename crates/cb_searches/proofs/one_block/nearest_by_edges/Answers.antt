use Rattle.std.proofs.Common.{ℕ}
use Rattle.std.proofs.lemmas.Result.{IfOk-weaker}
use Rattle.cb_matrix.specs.Sparse.{Sparse}
use Rattle.cb_searches.specs.Searches.{HasEdges, HasEnded, IsSearch}
use Rattle.cb_searches.specs.Walks.{AreDistances}
use Rattle.cb_searches.proofs.one_block.nearest_by_edges.Goals as goal

pub column-requires : goal.column-requires
column-requires c =
    let g = c.requires.graph in
    let whole = c.in_ok-search.ensures g.0 g.1 in
    record { search = (g.0, c.args.source, whole.0, whole.1.0) }

pub returns : goal.returns
returns c =
    IfOk-weaker c.column.result (λ (column : Sparse). (a : Sparse) (source k : ℕ) → IsSearch a source k c.in_ok-search.search → HasEnded a k c.in_ok-search.search → AreDistances a source column)
    (λ (column : Sparse). (a : Sparse) → HasEdges c.args.edges.now a → AreDistances a c.args.source column)
    (λ column h a is.
    let whole = c.in_ok-search.ensures a is in
    h a c.args.source whole.0 whole.1.0 whole.1.1) c.column.ensures
