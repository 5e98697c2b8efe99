use Rattle.std.proofs.Common.{◌<◌, ap, sym, subst}
use Rattle.std.specs.Prelude.{All}
use Rattle.cb_matrix.specs.Sparse.{Sparse}
use Rattle.cb_searches.proofs.several_sources.distance_columns.Goals as goal

pub columns_from-requires-clause-graph : goal.columns_from-requires-clause-graph
columns_from-requires-clause-graph c = (c.args.graph.now, c.requires.edges)

pub columns_from-requires-clause-sources : goal.columns_from-requires-clause-sources
columns_from-requires-clause-sources c = subst (λ n. All (λ v. v < n) c.args.sources.now) (sym (ap (λ (m : Sparse). m.shape.cols) c.requires.edges.turned)) c.requires.sources

pub returns-clause-distances : goal.returns-clause-distances
returns-clause-distances c = c.in_ok-columns.ensures c.args.graph.now c.requires.edges
