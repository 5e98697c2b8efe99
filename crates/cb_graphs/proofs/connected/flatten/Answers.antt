use Rattle.std.proofs.Common.{◌≢◌, ◌∙◌, subst, sym, ap}
use Rattle.std.specs.Prelude.{All}
use Rattle.cb_matrix.specs.declared.Entry.{Entry}
use Rattle.cb_matrix.specs.Sparse.{Extent}
use Rattle.cb_searches.specs.Numbers.{number_at}
use Rattle.cb_searches.specs.Walks.{infinite}
use Rattle.cb_graphs.specs.Forests.{IsFlat}
use Rattle.cb_graphs.proofs.FlatTrees.{each_entry, each_vertex}
use Rattle.cb_graphs.proofs.connected.flatten.Goals as goal

pub flatten_all-requires-clause-vertices : goal.flatten_all-requires-clause-vertices
flatten_all-requires-clause-vertices c =
    let p = number_at c.args.parents.now in
    let made = c.in_ok-vertices in
    subst (All (λ (e : Entry). p e.row ≢ infinite)) (sym c.entries.ensures)
    (each_entry made.vertices c.shape.ensures.matrix (ap (λ (e : Extent). e.cols) made.ensures.shape ∙ c.requires.column) p made.ensures.values)

pub returns-clause-flat : goal.returns-clause-flat
returns-clause-flat c =
    let q = number_at c.flatten_all.new.parents in
    let made = c.in_ok-vertices in
    each_vertex made.vertices c.shape.ensures.matrix (ap (λ (e : Extent). e.cols) made.ensures.shape ∙ c.requires.column) (number_at c.args.parents.now) made.ensures.values q
    (subst (All (λ (e : Entry). IsFlat q e.row)) c.entries.ensures c.in_ok-flatten_all.ensures.flat)
