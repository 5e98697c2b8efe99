use Rattle.cb_matrix.specs.Sparse.{Sparse}
use Rattle.cb_searches.specs.Searches.{HasEdges, IsSearch}
use Rattle.cb_searches.proofs.one_block.search_by_edges.Given as goal

-- each round is one of a search
abbrev pub invariant-loop-round : goal.invariant-loop-round
invariant-loop-round l = (a : Sparse) → HasEdges l.edges a → IsSearch a l.fn.source l._round l.search
