use Rattle.std.proofs.Common.{◌≡◌, ap, arith}
use Rattle.cb_matrix.specs.Sparse.{Sparse}
use Rattle.cb_searches.proofs.one_block.distances_by.Goals as goal

pub nearest_by_edges-requires-clause-graph : goal.nearest_by_edges-requires-clause-graph
nearest_by_edges-requires-clause-graph c = (c.args.graph.now, c.requires.edges)

pub nearest_by_edges-requires-clause-source : goal.nearest_by_edges-requires-clause-source
nearest_by_edges-requires-clause-source c =
    let cols : c.args.edges.now.shape.cols ≡ c.args.graph.now.shape.rows = ap (λ (m : Sparse). m.shape.cols) c.requires.edges.turned in
    omega (arith, cols, c.requires.source)

pub returns-clause-distances : goal.returns-clause-distances
returns-clause-distances c = c.in_ok-column.ensures c.args.graph.now c.requires.edges
