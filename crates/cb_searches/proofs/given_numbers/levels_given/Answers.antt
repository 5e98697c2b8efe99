use Rattle.std.proofs.Common.{◌≡◌, ◌<◌, ◌∙◌, ap, arith}
use Rattle.cb_matrix.specs.Sparse.{Extent}
use Rattle.cb_searches.specs.Walks.{infinite}
use Rattle.cb_searches.proofs.NearestGiven.{levels_given}
use Rattle.cb_searches.proofs.given_numbers.levels_given.Goals as goal

pub given_by_edges-requires : goal.given_by_edges-requires
given_by_edges-requires c = record { graph = (c.args.graph.now, c.in_ok-edges.ensures, c.requires.column) }

pub returns-clause-levels : goal.returns-clause-levels
returns-clause-levels c =
    let a = c.args.graph.now in
    let rows : c.rows.result ≡ a.shape.rows = c.rows.ensures.value ∙ ap (λ (e : Extent). e.rows) c.shape-shape.ensures.shape in
    let fits : a.shape.rows < infinite = omega (arith, rows, c.rows.ensures.limit) in
    levels_given a c.shape-shape.ensures.matrix c.requires.square fits c.args.given.now c.shape-2.ensures.matrix (ap (λ (e : Extent). e.rows) c.requires.column) c.in_ok-column.column (c.in_ok-column.ensures.distances a c.in_ok-edges.ensures c.requires.column)
