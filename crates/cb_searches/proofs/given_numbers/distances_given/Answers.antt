use Rattle.cb_searches.proofs.given_numbers.distances_given.Goals as goal

pub given_by_edges-requires : goal.given_by_edges-requires
given_by_edges-requires c = record { graph = (c.args.graph.now, c.in_ok-edges.ensures, c.requires.column) }

pub returns-clause-distances : goal.returns-clause-distances
returns-clause-distances c = c.in_ok-column.ensures.distances c.args.graph.now c.in_ok-edges.ensures c.requires.column
